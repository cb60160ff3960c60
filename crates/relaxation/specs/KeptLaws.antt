-- Laws of a set narrowed to one value.
use Rattle.std.specs.Prelude.{◌≡◌, refl, Bool, true, false, List, [], ℕ, zero, suc, ◌+◌, ◌*◌, ◌/◌, ◌%◌, ◌^◌, ◌≤◌, ◌<◌, eqb, Option, None, Some}
use Rattle.std.proofs.Common.{sym, ap, ap₂, ◌∙◌, mul-le-mul_right, one-mul, zero-mul, lt_of_lt_of_le, arith, pow_pos, pow_mono, shl_exact, eq-eqb, ne_eqb, eqb-true}
use Rattle.std.proofs.Math.Nat.{div-eq_of_lt}
use Rattle.std.proofs.Math.Pow.{split}
use Rattle.facts.specs.BitsLaws.{doubled, even_bit, even_half}
use Rattle.value.specs.Value.{bit_of}
use Rattle.value.specs.ValueLaws.{halved}
use Rattle.taskfile.specs.Task.{max_values}
use Rattle.relaxation.specs.Relaxed.{values_from, values_in, SetInside, passing}
use Rattle.relaxation.specs.RelaxedTask.{allows}
use Rattle.relaxation.specs.Narrowing.{kept_set}
use Rattle.relaxation.specs.RelaxedLaws.{with_bit, no_values}
use Rattle.relaxation.specs.PassingLaws.{firstly, passing_all}

-- ---- its values

-- the first value does not pass
other_bit : (c b d : ℕ) (more left : List ℕ) → (c ≡ d → ⊥) → passing (eqb c) more ≡ left → passing (eqb c) (with_bit b d more) ≡ left
other_bit c zero d more left h e = e
other_bit c (suc b) d more left h e = ap (λ (t : Bool). firstly t d (passing (eqb c) more)) (ne_eqb c d h) ∙ e

-- or it alone does
this_bit : (c b d : ℕ) (more : List ℕ) → c ≡ d → passing (eqb c) more ≡ [] → passing (eqb c) (with_bit b d more) ≡ with_bit b d []
this_bit c zero d more h e = e
this_bit c (suc b) d more h e = ap₂ (λ (t : Bool) (l : List ℕ). firstly t d l) (eq-eqb c d h) e

-- no value is below the first
none_below : (n d set c : ℕ) → c < d → passing (eqb c) (values_from n d set) ≡ []
none_below zero d set c l = refl
none_below (suc n) d set c l = other_bit c (set % 2) d (values_from n (suc d) (set / 2)) [] (λ e. omega arith) (none_below n (suc d) (set / 2) c (omega arith))

-- the values of a set that are c, which is the first one plus j
value_alone : (n d set c j : ℕ) → c ≡ d + j → passing (eqb c) (values_from n d set) ≡ values_from n d (bit_of set j * 2 ^ j)
value_alone zero d set c j e = refl
value_alone (suc n) d set c zero e =
    let w : bit_of set 0 * 2 ^ 0 ≡ set % 2 = omega arith in
    let bit : set % 2 % 2 ≡ set % 2 = omega arith in
    let half : set % 2 / 2 ≡ 0 = omega arith in
    this_bit c (set % 2) d (values_from n (suc d) (set / 2)) (omega arith) (none_below n (suc d) (set / 2) c (omega arith))
    ∙ sym (ap (values_from (suc n) d) w ∙ ap₂ (λ (b h : ℕ). with_bit b d (values_from n (suc d) h)) bit half ∙ ap (with_bit (set % 2) d) (no_values n (suc d)))
value_alone (suc n) d set c (suc j) e =
    let b = bit_of set (suc j) in
    other_bit c (set % 2) d (values_from n (suc d) (set / 2)) (values_from n (suc d) (b * 2 ^ j)) (λ q. omega arith)
    (value_alone n (suc d) (set / 2) c j (omega arith) ∙ ap (λ (h : ℕ). values_from n (suc d) (h % 2 * 2 ^ j)) (halved set j))
    ∙ sym (ap (values_from (suc n) d) (doubled b j) ∙ ap₂ (λ (z h : ℕ). with_bit z d (values_from n (suc d) h)) (even_bit (b * 2 ^ j)) (even_half (b * 2 ^ j)))

-- whether a value is the one, if there is one
abbrev pub agreeing : Option ℕ → ℕ → Bool
agreeing None x = true
agreeing (Some d) x = eqb d x

-- its values are those of the set that agree
pub kept_values : (set : ℕ) (o : Option ℕ) → passing (agreeing o) (values_in set) ≡ values_in (kept_set set o)
kept_values set None = passing_all (values_in set)
kept_values set (Some c) = value_alone max_values 0 set c c (omega arith)

-- ---- where the set has the value

-- a value in a set is below what the set is below
bit_low : (set d : ℕ) → bit_of set d ≡ 1 → 2 ^ d ≤ set
bit_low set d h =
    let some : 1 ≤ set / 2 ^ d = omega (arith, h) in
    let whole : 1 * 2 ^ d ≤ set / 2 ^ d * 2 ^ d = mul-le-mul_right (2 ^ d) some in
    omega (arith, split set d, whole, one-mul (2 ^ d))

kept_one : (set d : ℕ) → bit_of set d ≡ 1 → kept_set set (Some d) ≡ 2 ^ d
kept_one set d h = ap (λ (b : ℕ). b * 2 ^ d) h ∙ one-mul (2 ^ d)

-- it is not empty and has no stray bit
pub kept_inside : (size set : ℕ) (o : Option ℕ) → allows set o ≡ true → SetInside size set → SetInside size (kept_set set o)
kept_inside size set None h inside = inside
kept_inside size set (Some d) h inside =
    let b = eqb-true (bit_of set d) 1 h in
    let k = kept_one set d b in
    record { some = omega (arith, k, pow_pos d); no_stray = omega (arith, k, bit_low set d b, inside.no_stray) }

-- ---- what code finds: a set that is not empty lacks the value exactly if nothing is left of it

pub kept_lacks : (set : ℕ) (o : Option ℕ) → 0 < set → kept_set set o ≡ 0 → allows set o ≡ false
kept_lacks set None l e = absurd (omega arith)
kept_lacks set (Some d) l e = ne_eqb (bit_of set d) 1 (λ h. absurd (omega (arith, e, kept_one set d h, pow_pos d)))

pub kept_has : (set : ℕ) (o : Option ℕ) → (kept_set set o ≡ 0 → ⊥) → allows set o ≡ true
kept_has set None h = refl
kept_has set (Some d) h = go (bit_of set d) refl (omega arith)
  where
    go : (b : ℕ) → bit_of set d ≡ b → b < 2 → allows set (Some d) ≡ true
    go zero e l = absurd (h (ap (λ (b : ℕ). b * 2 ^ d) e ∙ omega arith))
    go (suc b) e l = eq-eqb (bit_of set d) 1 (omega arith)

-- ---- a set of one byte

-- it has no value from 8 on
pub alone_beyond : (set d : ℕ) → set < 2 ^ 8 → 8 ≤ d → kept_set set (Some d) ≡ 0
alone_beyond set d h l = ap (λ (q : ℕ). q % 2 * 2 ^ d) (div-eq_of_lt (lt_of_lt_of_le h (pow_mono l))) ∙ zero-mul (2 ^ d)

-- and one below stays in it
pub alone_shifted : (set d : ℕ) → d < 8 → bit_of set d * 2 ^ d % 2 ^ 8 ≡ kept_set set (Some d)
alone_shifted set d l = shl_exact 1 d 8 (omega arith) (omega arith)
