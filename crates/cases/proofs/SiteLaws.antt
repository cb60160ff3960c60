-- Laws of sites: a reader is refused exactly if a refusal is due at one of the sites that it comes to. The parts that both kinds of file have.
use Rattle.std.specs.Prelude.{◌≡◌, refl, ℕ, suc, ◌+◌, List, [], ◌∷◌, length, take}
use Rattle.std.proofs.Common.{lt_of_not-le}
use Rattle.std.proofs.Math.Decide.{dec_le}
use Rattle.facts.specs.Read.{Read, accepted, refused, check}
use Rattle.facts.specs.ReadLaws.{through, next_of_lem}
use Rattle.facts.specs.Lists.{up_from, At, here, there}
use Rattle.facts.specs.Bytes.{number_at}
use Rattle.facts.specs.Fields.{standing, each, read_count, read_value, read_map, read_weight, read_values, read_partial, read_operator, read_sizes, read_head}
use Rattle.facts.specs.Fields.{field as readField}
use Rattle.facts.specs.FieldLaws.{number_ends, number_reads, field_refused, field_wrong}
use Rattle.cases.specs.Sites.{Kind, count, value, map, weight, bytes, good, wrong, Site, field, Due, cut, bad, Sites, Fault, Only, only, Among, ValueSites, PartialSites, partial_map, partial_value, OperatorSites, precondition, effect, number, HeadSites, variables, domain_size, initial_value, goal}
use Rattle.cases.specs.SiteLaws.{first, after, stops, not_accepted, failed, unmade, Faults, within, alone, line}

-- ---- a field

module _ (f : List ℕ) where
  field_found : (kind : Kind) (at : ℕ) {n p : ℕ} → readField f (bytes kind) (good kind) (wrong kind) at ≡ refused n p → Fault f (Only (field kind) at) n p
  unfolding readField
  field_found kind at {n} {p} h = elim (dec_le (at + bytes kind) (length f)) [
    | yes l ↦
        let x = number_at (bytes kind) f at in
        let q = failed (good kind x) (wrong kind) at (unmade (check (good kind x) (wrong kind) at) (λ u. (x, at + bytes kind)) (rw (number_reads f (bytes kind) at l) at h)) in
        at_field q.2 (bad q.1 l q.0)
    | no l ↦
        let e : refused 1 at ≡ refused n p = rw (number_ends f (bytes kind) at (lt_of_not-le l)) at h in
        let one : n ≡ 1 = cc in
        let place : p ≡ at = cc in
        at_field place (cut one (lt_of_not-le l))
  ]
    where
      at_field : p ≡ at → Due f n at (field kind) → Fault f (Only (field kind) at) n p
      at_field e due = rw e (record { site = field kind; there = only; due = due })

  field_answers : (kind : Kind) (at : ℕ) {n p : ℕ} {site : Site} → Only (field kind) at site p → Due f n p site → readField f (bytes kind) (good kind) (wrong kind) at ≡ refused n p
  field_answers kind at only (cut e l) = rw e (field_refused f (bytes kind) (good kind) (wrong kind) at (number_ends f (bytes kind) at l))
  field_answers kind at only (bad e l g) = rw e (field_wrong f (bytes kind) (good kind) (wrong kind) at (number_reads f (bytes kind) at l) g)

  pub field_faults : (kind : Kind) (at : ℕ) → Faults f (readField f (bytes kind) (good kind) (wrong kind) at) (Only (field kind) at)
  field_faults kind at = record { found = field_found kind at; answers = field_answers kind at }

  pub count_faults : (low high at : ℕ) → Faults f (read_count f low high at) (Only (field (count low high)) at)
  unfolding read_count
  count_faults low high at = field_faults (count low high) at

  value_faults : (d at : ℕ) → Faults f (read_value f d at) (Only (field (value d)) at)
  unfolding read_value
  value_faults d at = field_faults (value d) at

  map_faults : (n at : ℕ) → Faults f (read_map f n at) (Only (field (map n)) at)
  unfolding read_map
  map_faults n at = field_faults (map n) at

  pub weight_faults : (at : ℕ) → Faults f (read_weight f at) (Only (field weight) at)
  unfolding read_weight
  weight_faults at = field_faults weight at

  -- ---- items one after the other

  module _ {A X : Type 0} (read : A → ℕ → Read (X × ℕ)) (sites : A → ℕ → Sites) (part : (a : A) (at : ℕ) → Faults f (read a at) (sites a at)) where
    -- the items after the first
    later : {a : A} {items : List A} {at from : ℕ} {x : X} {p : ℕ} → read a at ≡ accepted (x, from) → (site : Site) → Among read sites items from site p → Among read sites (a ∷ items) at site p
    later {x = x} h site s = record {
      j = suc s.j;
      item = s.item;
      stands = there s.stands;
      before = x ∷ s.before;
      from = s.from;
      accepts = rw (h, s.accepts);
      come = s.come;
    }

    each_found : (items : List A) (at : ℕ) {n p : ℕ} → each read items at ≡ refused n p → Fault f (Among read sites items at) n p
    each_found [] at h = absurd (not_accepted h)
    each_found (a ∷ items) at h = elim (stops (read a at) h) [
      | first g ↦ within (λ site s. record { j = 0; item = a; stands = here; before = []; from = at; accepts = refl; come = s }) ((part a at).found g)
      | after x e g ↦ within (later e) (each_found items x.1 (unmade (each read items x.1) (λ q. (x.0 ∷ q.0, q.1)) g))
    ]

    each_stops : {items : List A} {j : ℕ} {a : A} (at : ℕ) {xs : List X} {from n p : ℕ} → At items j a → each read (take j items) at ≡ accepted (xs, from) → read a from ≡ refused n p → each read items at ≡ refused n p
    each_stops at here h g = rw (next_of_lem h, g)
    each_stops at {n = n} {p = p} (there {x = a} {y = y} {xs = items} {k = j} s) h g =
        let o = through (read y at) h in
        let q = through (each read (take j items) o.got.1) o.then in
        let e : read a q.got.1 ≡ refused n p = rw (next_of_lem q.then) g in
        rw (o.first, each_stops o.got.1 s q.first e)

    pub each_faults : (items : List A) (at : ℕ) → Faults f (each read items at) (Among read sites items at)
    each_faults items at = record { found = each_found items at; answers = λ s due. each_stops at s.stands s.accepts ((part s.item s.from).answers s.come due) }

  pub values_faults : (sizes : List ℕ) (at : ℕ) → Faults f (read_values f sizes at) (ValueSites f sizes at)
  unfolding read_values
  values_faults sizes at = each_faults (read_value f) (λ d o. Only (field (value d)) o) value_faults sizes at

  sizes_faults : (largest n at : ℕ) → Faults f (read_sizes f largest n at) (Among (λ (v : ℕ). read_count f 2 largest) (λ v o. Only (field (count 2 largest)) o) (up_from 0 n) at)
  unfolding read_sizes
  sizes_faults largest n at = each_faults (λ (v : ℕ). read_count f 2 largest) (λ v o. Only (field (count 2 largest)) o) (λ v. count_faults 2 largest) (up_from 0 n) at

  -- ---- a partial state

  partial_answers : (sizes : List ℕ) (at : ℕ) {n p : ℕ} {site : Site} → PartialSites f sizes at site p → Due f n p site → read_partial f sizes at ≡ refused n p
  unfolding read_partial
  partial_answers sizes at partial_map due = rw ((map_faults (length sizes) at).answers only due)
  partial_answers sizes at (partial_value {m = m} {from = from} e s) due = rw (e, (values_faults (standing m sizes) from).answers s due)

  pub partial_faults : (sizes : List ℕ) (at : ℕ) → Faults f (read_partial f sizes at) (PartialSites f sizes at)
  unfolding read_partial
  partial_faults sizes at = record {
    found = λ h.
        line (map_faults (length sizes) at) h (alone (PartialSites f sizes at) partial_map) (λ x a h.
        line (values_faults (standing x.0 sizes) x.1) h (λ site s. partial_value a s) (λ y b h. absurd (not_accepted h)));
    answers = partial_answers sizes at;
  }

  -- ---- an operator

  operator_answers : (sizes : List ℕ) (at : ℕ) {n p : ℕ} {site : Site} → OperatorSites f sizes at site p → Due f n p site → read_operator f sizes at ≡ refused n p
  unfolding read_operator
  operator_answers sizes at (precondition s) due = rw ((partial_faults sizes at).answers s due)
  operator_answers sizes at (effect {from = from} a s) due = rw (a, (partial_faults sizes from).answers s due)
  operator_answers sizes at (number {p = p} a b) due = rw (a, b, (weight_faults p).answers only due)

  pub operator_faults : (sizes : List ℕ) (at : ℕ) → Faults f (read_operator f sizes at) (OperatorSites f sizes at)
  unfolding read_operator
  operator_faults sizes at = record {
    found = λ h.
        line (partial_faults sizes at) h (λ site s. precondition s) (λ x a h.
        line (partial_faults sizes x.1) h (λ site s. effect a s) (λ y b h.
        line (weight_faults y.1) h (alone (OperatorSites f sizes at) (number a b)) (λ z c h. absurd (not_accepted h))));
    answers = operator_answers sizes at;
  }

  -- ---- the head

  module _ (most largest : ℕ) where
    head_answers : {n p : ℕ} {site : Site} → HeadSites f most largest site p → Due f n p site → read_head f most largest ≡ refused n p
    unfolding read_head
    head_answers variables due = rw ((count_faults 1 most 0).answers only due)
    head_answers (domain_size {n = n} {from = from} a s) due = rw (a, (sizes_faults largest n from).answers s due)
    head_answers (initial_value {next = next} {sizes = sizes} a b s) due = rw (a, b, (values_faults sizes next).answers s due)
    head_answers (goal {last = last} {sizes = sizes} a b c s) due = rw (a, b, c, (partial_faults sizes last).answers s due)

    pub head_faults : Faults f (read_head f most largest) (HeadSites f most largest)
    unfolding read_head
    head_faults = record {
      found = λ h.
          line (count_faults 1 most 0) h (alone (HeadSites f most largest) variables) (λ x a h.
          line (sizes_faults largest x.0 x.1) h (λ site s. domain_size a s) (λ y b h.
          line (values_faults y.0 y.1) h (λ site s. initial_value a b s) (λ z c h.
          line (partial_faults y.0 z.1) h (λ site s. goal a b c s) (λ w d h. absurd (not_accepted h)))));
      answers = head_answers;
    }
