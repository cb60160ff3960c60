-- Numbers as text: decimal, separated by blanks.
use Rattle.std.specs.Prelude.{ℕ, zero, suc, ◌+◌, ◌-◌, ◌*◌, ◌/◌, ◌%◌, Bool, true, false, ◌&&◌, ◌||◌, List, [], ◌∷◌, ◌++◌, leb, ltb, eqb, length, take}
use Rattle.facts.specs.Write.{over}
use Rattle.text.specs.declared.Only.{Only}
use Rattle.text.specs.declared.Only.TheVariants.{One, None, More}

-- space, tab, newline, carriage return
unfoldable pub blank : ℕ → Bool
blank b = eqb b 32 || eqb b 9 || eqb b 10 || eqb b 13

unfoldable pub digit : ℕ → Bool
digit b = leb 48 b && ltb b 58

-- What a text has: something, or the first that is wrong.
pub data Parsed (X : Type 0) : Type 0 where
  parsed : X → Parsed X
  -- a byte that is neither a digit nor a blank, at an offset
  stray : ℕ → Parsed X
  -- a number above the bound that begins at an offset
  large : ℕ → Parsed X

-- the same with something made of the value
abbrev pub with_parsed : {X Y : Type 0} → (X → Y) → Parsed X → Parsed Y
with_parsed f (parsed x) = parsed (f x)
with_parsed f (stray p) = stray p
with_parsed f (large p) = large p

-- where a reader stands
pub data Standing : Type 0 where
  between : Standing
  -- within a number: its digits so far, and the offset of the first of them
  within : ℕ → ℕ → Standing

-- the number that a digit here adds to
abbrev pub so_far : Standing → ℕ
so_far between = 0
so_far (within n s) = n

-- the first offset of the number that a digit at p belongs to
abbrev pub began : Standing → ℕ → ℕ
began between p = p
began (within n s) p = s

-- with the number that ends here in front
abbrev pub ended : Standing → List ℕ → List ℕ
ended between xs = xs
ended (within n s) xs = n ∷ xs

-- the numbers of a text, each at most `most`, from an offset on
abbrev pub numbers_from : ℕ → Standing → ℕ → List ℕ → Parsed (List ℕ)
numbers_from most place p [] = parsed (ended place [])
numbers_from most place p (b ∷ text) = elim (digit b) [
  | true ↦ elim (leb (10 * so_far place + (b - 48)) most) [
    | true ↦ numbers_from most (within (10 * so_far place + (b - 48)) (began place p)) (p + 1) text
    | false ↦ large (began place p)
  ]
  | false ↦ elim (blank b) [ true ↦ with_parsed (ended place) (numbers_from most between (p + 1) text) | false ↦ stray p ]
]

unfoldable pub numbers_of : ℕ → List ℕ → Parsed (List ℕ)
numbers_of most text = numbers_from most between 0 text

-- how many there are
unfoldable pub count_of : ℕ → List ℕ → Parsed ℕ
count_of most text = with_parsed length (numbers_of most text)

-- a buffer with as many of the numbers at its front as it has room for; as it was where something is wrong
unfoldable pub buffer_of : Parsed (List ℕ) → List ℕ → List ℕ
buffer_of (parsed xs) out = over (take (length out) xs) out
buffer_of (stray p) out = out
buffer_of (large p) out = out

-- the only number among some
abbrev pub only_of : List ℕ → Only
only_of [] = None
only_of (x ∷ []) = One x
only_of (x ∷ y ∷ xs) = More

-- the digits of n, where k is at least how many digits there are after the first
abbrev pub decimal_in : ℕ → ℕ → List ℕ
decimal_in zero n = (48 + n) ∷ []
decimal_in (suc k) n = elim (ltb n 10) [ true ↦ (48 + n) ∷ [] | false ↦ decimal_in k (n / 10) ++ (48 + n % 10) ∷ [] ]

-- the digits of n, none a leading zero, and 0 for 0
unfoldable pub decimal : ℕ → List ℕ
decimal n = decimal_in n n

-- a space after a number that others follow, a newline after the last
abbrev pub end_of : List ℕ → ℕ
end_of [] = 10
end_of (x ∷ xs) = 32

-- numbers, each with what ends it
abbrev pub each_text : List ℕ → List ℕ
each_text [] = []
each_text (x ∷ xs) = decimal x ++ end_of xs ∷ each_text xs

-- numbers with one space between them and a newline; the newline alone for none
unfoldable pub list_text : List ℕ → List ℕ
list_text [] = 10 ∷ []
list_text (x ∷ xs) = each_text (x ∷ xs)
