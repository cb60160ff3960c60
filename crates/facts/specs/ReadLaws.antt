-- Laws of answers one after the other: what is accepted went through every line, and what goes through every line is accepted.
use Rattle.std.specs.Prelude.{◌≡◌, refl, Bool, true, false, ℕ}
use Rattle.std.proofs.Common.{ap, ◌∙◌, subst₂, arith}
use Rattle.facts.specs.Read.{Read, accepted, refused, ◌>>=◌, check, with_value}

pub not_refused : {X : Type 0} {n p : ℕ} {x : X} → refused n p ≡ accepted x → ⊥
not_refused e = let z : ◌≡◌ {A = ℕ} 0 1 = cc in omega arith

-- m was accepted, and then k
pub record Through {X Y : Type 0} (m : Read X) (k : X → Read Y) (y : Y) : Type 0 where
  pub got : X
  pub first : m ≡ accepted got
  pub then : k got ≡ accepted y

pub through : {X Y : Type 0} (m : Read X) {k : X → Read Y} {y : Y} → ◌>>=◌ m k ≡ accepted y → Through m k y
through (accepted x) h = record { got = x; first = refl; then = h }
through (refused n p) h = absurd (not_refused h)

pub checked : (b : Bool) (n p : ℕ) {u : Unit {0}} → check b n p ≡ accepted u → b ≡ true
checked true n p h = refl
checked false n p h = absurd (not_refused h)

pub onward : {X Y : Type 0} {m : Read X} {x : X} (k : X → Read Y) {y : Y} → m ≡ accepted x → k x ≡ accepted y → ◌>>=◌ m k ≡ accepted y
onward k h g = ap (λ z. ◌>>=◌ z k) h ∙ g

-- what an accepted answer was made from
pub record Made {X Y : Type 0} (f : X → Y) (r : Read X) (y : Y) : Type 0 where
  pub from : X
  pub answer : r ≡ accepted from
  pub value : f from ≡ y

pub made : {X Y : Type 0} (f : X → Y) (r : Read X) {y : Y} → with_value f r ≡ accepted y → Made f r y
made f (accepted x) h = record { from = x; answer = refl; value = cc }
made f (refused n p) h = absurd (not_refused h)

pub not_made : {X Y : Type 0} (f : X → Y) (r : Read X) {n p : ℕ} → with_value f r ≡ refused n p → r ≡ refused n p
not_made f (accepted x) h = let z : ◌≡◌ {A = ℕ} 0 1 = cc in absurd (omega arith)
not_made f (refused n p) h = cc

-- what a line makes of the value before it goes on is made of the value at the end
pub bind_with_value : {X Y Z : Type 0} (f : X → Y) (r : Read X) (k : Y → Read Z) → ◌>>=◌ (with_value f r) k ≡ ◌>>=◌ r (λ x. k (f x))
bind_with_value f (accepted x) k = refl
bind_with_value f (refused n p) k = refl

pub with_value_bind : {X Y Z : Type 0} (f : Y → Z) (r : Read X) (k : X → Read Y) → with_value f (◌>>=◌ r k) ≡ ◌>>=◌ r (λ x. with_value f (k x))
with_value_bind f (accepted x) k = refl
with_value_bind f (refused n p) k = refl

pub bind_assoc : {X Y Z : Type 0} (r : Read X) (k : X → Read Y) (l : Y → Read Z) → ◌>>=◌ (◌>>=◌ r k) l ≡ ◌>>=◌ r (λ x. ◌>>=◌ (k x) l)
bind_assoc (accepted x) k l = refl
bind_assoc (refused n p) k l = refl

-- two ways to go on that agree on what was accepted
pub agree : {X Y : Type 0} (m : Read X) (k l : X → Read Y) → ((x : X) → m ≡ accepted x → k x ≡ l x) → ◌>>=◌ m k ≡ ◌>>=◌ m l
agree (accepted x) k l h = h x refl
agree (refused n p) k l h = refl

-- the parts of an accepted pair
module _ {X : Type 0} {x y : X} {d e : ℕ} (h : ◌≡◌ {A = Read (X × ℕ)} (accepted (x, d)) (accepted (y, e))) where
  both : ◌≡◌ {A = X × ℕ} (x, d) (y, e)
  both = cc

  pub value_of_lem : x ≡ y
  value_of_lem = ap (λ (p : X × ℕ). p.0) both

  pub next_of_lem : d ≡ e
  next_of_lem = ap (λ (p : X × ℕ). p.1) both

  -- what holds of one holds of the other
  pub carried : (P : X → ℕ → Type 0) → P x d → P y e
  carried P q = subst₂ P value_of_lem next_of_lem q
