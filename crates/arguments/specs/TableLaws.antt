-- Laws of words by number: looking for a word from the first of a table on.
use Rattle.std.specs.Prelude.{ℕ, suc, ◌+◌, ◌-◌, ◌≤◌, ◌<◌, ◌≡◌, refl, Bool, true, false, List, [], ◌∷◌, ◌++◌, eqb, length, take, drop, get_or}
use Rattle.std.proofs.Common.{sym, ap, ap₂, ◌∙◌, arith, add-one, length-drop, drop_of_length-le, take-suc, drop-cons, get_or-drop, eq-eqb, ne_eqb, eqb-true}
use Rattle.arguments.specs.Table.{same, words_from, number_among, number_in}

-- ---- words that are the same, and others

same_word : (xs : List ℕ) → same xs xs ≡ true
same_word [] = refl
same_word (x ∷ xs) = rw (eq-eqb x x refl, same) (same_word xs)

same_equal : (xs ys : List ℕ) → same xs ys ≡ true → xs ≡ ys
same_equal [] [] e = refl
same_equal [] (y ∷ ys) e = absurd (let z : ◌≡◌ {A = ℕ} 0 1 = cc in omega arith)
same_equal (x ∷ xs) [] e = absurd (let z : ◌≡◌ {A = ℕ} 0 1 = cc in omega arith)
same_equal (x ∷ xs) (y ∷ ys) e = go (eqb x y) refl e (λ h. same_equal xs ys h)
  where
    go : (t : Bool) → eqb x y ≡ t → elim t as (λ t. Bool) [ true ↦ same xs ys | false ↦ false ] ≡ true → (same xs ys ≡ true → xs ≡ ys) → x ∷ xs ≡ y ∷ ys
    go true t e k = ap₂ (λ (z : ℕ) (zs : List ℕ). z ∷ zs) (eqb-true x y t) (k e)
    go false t e k = absurd (let z : ◌≡◌ {A = ℕ} 0 1 = cc in omega arith)

same_not : (xs ys : List ℕ) → (xs ≡ ys → ⊥) → same xs ys ≡ false
same_not xs ys h = go (same xs ys) refl
  where
    go : (t : Bool) → same xs ys ≡ t → t ≡ false
    go true e = absurd (h (same_equal xs ys e))
    go false e = refl

-- ---- one byte of a table, and one word

table_byte : (w : List ℕ) (b : ℕ) (table : List ℕ) → (b ≡ 32 → ⊥) → words_from w (b ∷ table) ≡ words_from (w ++ (b ∷ [])) table
table_byte w b table h = rw (ne_eqb b 32 h, words_from)

table_blank : (w : List ℕ) (b : ℕ) (table : List ℕ) → b ≡ 32 → words_from w (b ∷ table) ≡ w ∷ words_from [] table
table_blank w b table h = rw (eq-eqb b 32 h, words_from)

among_first : (word : List ℕ) (ws : List (List ℕ)) → number_among word (word ∷ ws) ≡ 0
among_first word ws = rw (same_word word, number_among)

among_others : (word w : List ℕ) (ws : List (List ℕ)) → (w ≡ word → ⊥) → number_among word (w ∷ ws) ≡ suc (number_among word ws)
among_others word w ws h = rw (same_not w word h, number_among)

-- ---- the search: words before `from` were others, `count` of them, and the bytes from there to `at` are read of the next

-- what was read of the word
abbrev pub read_of : List ℕ → ℕ → ℕ → List ℕ
read_of table from at = take (at - from) (drop from table)

pub record Looking (table word : List ℕ) (count from at : ℕ) : Type 0 where
  pub order : from ≤ at
  pub inside : at ≤ length table
  pub few : count ≤ at
  pub rest : number_in table word ≡ count + number_among word (words_from (read_of table from at) (drop at table))

pub looking_start : (table word : List ℕ) → Looking table word 0 0 0
unfolding number_in
looking_start table word = record { order = omega arith; inside = omega arith; few = omega arith; rest = sym (omega arith) }

module _ {table word : List ℕ} {count from at : ℕ} (k : Looking table word count from at) where
  pub looking_end : length table ≤ at → count ≡ number_in table word
  looking_end l =
      let none : number_among word (words_from (read_of table from at) (drop at table)) ≡ 0 = ap (λ (t : List ℕ). number_among word (words_from (read_of table from at) t)) (drop_of_length-le table {i = at} l) in
      omega (arith, k.rest, none)

  module _ (l : at < length table) where
    -- what is left begins with the byte here
    next : drop at table ≡ get_or table at 0 ∷ drop (at + 1) table
    next = drop-cons table at 0 l ∙ rw (add-one at)

    read_more : read_of table from at ++ (get_or table at 0 ∷ []) ≡ read_of table from (at + 1)
    read_more =
        let more : suc (at - from) ≡ at + 1 - from = omega (arith, k.order) in
        let here : at ≡ from + (at - from) = omega (arith, k.order) in
        ap (λ (b : ℕ). read_of table from at ++ (b ∷ [])) (ap (λ (i : ℕ). get_or table i 0) here ∙ sym (get_or-drop from table (at - from) 0))
        ∙ sym (take-suc (drop from table) (at - from) 0 (rw (length-drop from table) (omega (arith, k.order))))
        ∙ ap (λ (n : ℕ). take n (drop from table)) more

    -- a byte of a word
    pub looking_byte : (get_or table at 0 ≡ 32 → ⊥) → Looking table word count from (at + 1)
    looking_byte h = record {
      order = omega (arith, k.order);
      inside = omega arith;
      few = omega (arith, k.few);
      rest =
          k.rest
          ∙ ap (λ (ws : List (List ℕ)). count + number_among word ws) (ap (words_from (read_of table from at)) next ∙ table_byte (read_of table from at) (get_or table at 0) (drop (at + 1) table) h ∙ ap (λ (w : List ℕ). words_from w (drop (at + 1) table)) read_more);
    }

    module _ (h : get_or table at 0 ≡ 32) where
      ended : words_from (read_of table from at) (drop at table) ≡ read_of table from at ∷ words_from [] (drop (at + 1) table)
      ended = ap (words_from (read_of table from at)) next ∙ table_blank (read_of table from at) (get_or table at 0) (drop (at + 1) table) h

      -- the word itself
      pub looking_found : read_of table from at ≡ word → count ≡ number_in table word
      looking_found e =
          let none : number_among word (words_from (read_of table from at) (drop at table)) ≡ 0 = ap (number_among word) (ended ∙ ap (λ (w : List ℕ). w ∷ words_from [] (drop (at + 1) table)) e) ∙ among_first word (words_from [] (drop (at + 1) table)) in
          omega (arith, k.rest, none)

      -- another word
      pub looking_other : (read_of table from at ≡ word → ⊥) → Looking table word (count + 1) (at + 1) (at + 1)
      looking_other e =
          let nothing : 0 ≡ at + 1 - (at + 1) = omega arith in
          let one : number_among word (words_from (read_of table from at) (drop at table)) ≡ suc (number_among word (words_from [] (drop (at + 1) table))) = ap (number_among word) ended ∙ among_others word (read_of table from at) (words_from [] (drop (at + 1) table)) e in
          let on : number_among word (words_from [] (drop (at + 1) table)) ≡ number_among word (words_from (read_of table (at + 1) (at + 1)) (drop (at + 1) table)) = ap (λ (n : ℕ). number_among word (words_from (take n (drop (at + 1) table)) (drop (at + 1) table))) nothing in
          record {
            order = omega arith;
            inside = omega arith;
            few = omega (arith, k.few);
            rest = omega (arith, k.rest, one, on);
          }
