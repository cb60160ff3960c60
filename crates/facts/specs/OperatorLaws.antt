-- Laws of reading an operator: the ways in which it can go, and what an accepted one is.
use Rattle.std.specs.Prelude.{◌≡◌, refl, ℕ, ◌+◌, true, List}
use Rattle.std.proofs.Common.{ap, ◌∙◌}
use Rattle.facts.specs.Read.{accepted, refused}
use Rattle.facts.specs.ReadLaws.{through, made, not_made, carried}
use Rattle.facts.specs.Partial.{Partial}
use Rattle.facts.specs.Fields.{next_of, Operator, read_number, read_weight, read_partial, read_operator}
use Rattle.facts.specs.FieldLaws.{field_refused, field_good, Weighed, weight_read}
use Rattle.facts.specs.PartialReadLaws.{PartialRead, partial_read}

module _ (f sizes : List ℕ) (at : ℕ) where
  -- ---- an operator that was read: its effect and its weight begin where the field before them ends

  pub record OperatorRead (o : Operator) (e : ℕ) : Type 0 where
    pub effect : ℕ
    pub place : ℕ
    pub pre : PartialRead f sizes at o.pre effect
    pub eff : PartialRead f sizes effect o.eff place
    pub weight : Weighed f place o.weight e

  pub operator_read : {o : Operator} {e : ℕ} → read_operator f sizes at ≡ accepted (o, e) → OperatorRead o e
  unfolding read_operator
  operator_read h =
      let a = through (read_partial f sizes at) h in
      let b = through (read_partial f sizes a.got.1) a.then in
      let c = through (read_weight f b.got.1) b.then in
      carried c.then OperatorRead (record {
        effect = a.got.1;
        place = b.got.1;
        pre = partial_read f sizes at a.first;
        eff = partial_read f sizes a.got.1 b.first;
        weight = weight_read f b.got.1 c.first;
      })

  -- ---- the ways in which an operator can go, past it

  pub operator_no_pre : {n p : ℕ} → next_of (read_partial f sizes at) ≡ refused n p → next_of (read_operator f sizes at) ≡ refused n p
  unfolding read_operator
  operator_no_pre h = rw (not_made (λ (p : Partial × ℕ). p.1) (read_partial f sizes at) h)

  module _ {effect : ℕ} (h : next_of (read_partial f sizes at) ≡ accepted effect) where
    abbrev pre : Partial
    pre = (made (λ (p : Partial × ℕ). p.1) (read_partial f sizes at) h).from.0

    pre_is : read_partial f sizes at ≡ accepted (pre, effect)
    pre_is = let m = made (λ (p : Partial × ℕ). p.1) (read_partial f sizes at) h in m.answer ∙ ap (λ (e : ℕ). accepted (pre, e)) m.value

    pub operator_no_effect : {n p : ℕ} → next_of (read_partial f sizes effect) ≡ refused n p → next_of (read_operator f sizes at) ≡ refused n p
    unfolding read_operator
    operator_no_effect g = rw (pre_is, not_made (λ (p : Partial × ℕ). p.1) (read_partial f sizes effect) g)

    module _ {place : ℕ} (g : next_of (read_partial f sizes effect) ≡ accepted place) where
      abbrev eff : Partial
      eff = (made (λ (p : Partial × ℕ). p.1) (read_partial f sizes effect) g).from.0

      eff_is : read_partial f sizes effect ≡ accepted (eff, place)
      eff_is = let m = made (λ (p : Partial × ℕ). p.1) (read_partial f sizes effect) g in m.answer ∙ ap (λ (e : ℕ). accepted (eff, e)) m.value

      pub operator_no_weight : {n p : ℕ} → read_number f 2 place ≡ refused n p → next_of (read_operator f sizes at) ≡ refused n p
      unfolding read_operator read_weight
      operator_no_weight e = rw (pre_is, eff_is, field_refused f 2 (λ w. true) 3 place e)

      pub operator_good : {n : ℕ} → read_number f 2 place ≡ accepted n → next_of (read_operator f sizes at) ≡ accepted (place + 2)
      unfolding read_operator read_weight
      operator_good e = rw (pre_is, eff_is, field_good f 2 (λ w. true) 3 place e refl)
