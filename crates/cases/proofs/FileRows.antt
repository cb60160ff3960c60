-- A probe file gives no 6: no site of it is a diagram's.
use Rattle.std.specs.Prelude.{◌≡◌, ℕ, ◌≤◌, List}
use Rattle.std.proofs.Common.{arith}
use Rattle.facts.specs.Read.{refused}
use Rattle.probefile.specs.ProbeFile.{read_probe}
use Rattle.cases.specs.Sites.{wrong, Site, field, falling, end, Due, cut, bad, falls, goes_on, Only, only, PartialSites, partial_map, partial_value, OperatorSites, precondition, effect, number, HeadSites, variables, domain_size, initial_value, goal}
use Rattle.cases.specs.TaskSites.{ProbeSites, probe_head, step_count, step, probe_end}
use Rattle.cases.proofs.TaskSiteLaws.{probe_faults}
use Rattle.cases.specs.FileRows.{file_numbers}

-- ---- a probe file gives no 6: no site of it is a diagram's

-- what is due at the site is not 6
abbrev Plain : Site → Type 0
Plain (field kind) = wrong kind ≤ 5
Plain falling = ⊥
Plain end = Unit {0}

plain_due : {f : List ℕ} {n p : ℕ} {site : Site} → Plain site → Due f n p site → n ≤ 5
plain_due h (cut q l) = omega arith
plain_due h (bad q l g) = omega arith
plain_due h (goes_on q l) = omega arith
plain_due h (falls q) = absurd h

only_plain : {one site : Site} {at p : ℕ} → Plain one → Only one at site p → Plain site
only_plain h only = h

partial_plain : {f sizes : List ℕ} {at p : ℕ} {site : Site} → PartialSites f sizes at site p → Plain site
partial_plain partial_map = omega arith
partial_plain (partial_value e s) = only_plain (omega arith) s.come

operator_plain : {f sizes : List ℕ} {at p : ℕ} {site : Site} → OperatorSites f sizes at site p → Plain site
operator_plain (precondition s) = partial_plain s
operator_plain (effect a s) = partial_plain s
operator_plain (number a b) = omega arith

head_plain : {f : List ℕ} {most largest p : ℕ} {site : Site} → HeadSites f most largest site p → Plain site
head_plain variables = omega arith
head_plain (domain_size a s) = only_plain (omega arith) s.come
head_plain (initial_value a b s) = only_plain (omega arith) s.come
head_plain (goal a b c s) = partial_plain s

probe_plain : {f : List ℕ} {p : ℕ} {site : Site} → ProbeSites f site p → Plain site
probe_plain (probe_head s) = head_plain s
probe_plain (step_count a) = omega arith
probe_plain (step a b s) = operator_plain s.come
probe_plain (probe_end a b c) = tt

pub probe_numbers : (f : List ℕ) {n p : ℕ} → read_probe f ≡ refused n p → (1 ≤ n) × (n ≤ 5)
probe_numbers f h = let e = (probe_faults f).found h in ((file_numbers (probe_faults f) h).0, plain_due (probe_plain e.there) e.due)
