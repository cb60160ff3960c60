-- Laws of sites: what it is that a reader is refused exactly if a refusal is due at one of the sites that it comes to, and what follows part by part. That the readers are refused so: proofs/SiteLaws.antt, proofs/TaskSiteLaws.antt.
use Rattle.std.specs.Prelude.{◌≡◌, refl, ℕ, Bool, true, false, List}
use Rattle.std.proofs.Common.{sym, ap, ◌∙◌}
use Rattle.facts.specs.Read.{Read, accepted, refused, check, ◌>>=◌}
use Rattle.facts.specs.ReadLaws.{not_refused}
use Rattle.cases.specs.Sites.{Site, Due, Sites, Fault, Only, only}

-- ---- answers one after the other

-- m is refused, or it is accepted and what follows is refused
pub data Stops {X Y : Type 0} (m : Read X) (k : X → Read Y) (n p : ℕ) : Type 0 where
  first : m ≡ refused n p → Stops m k n p
  after : (x : X) → m ≡ accepted x → k x ≡ refused n p → Stops m k n p

pub stops : {X Y : Type 0} (m : Read X) {k : X → Read Y} {n p : ℕ} → ◌>>=◌ m k ≡ refused n p → Stops m k n p
stops (accepted x) h = after x refl h
stops (refused n p) h = first cc

-- what is refused goes no further
pub stopped : {X Y : Type 0} {m : Read X} {n p : ℕ} (k : X → Read Y) → m ≡ refused n p → ◌>>=◌ m k ≡ refused n p
stopped k h = ap (λ z. ◌>>=◌ z k) h

pub passed : {X Y : Type 0} {m : Read X} {x : X} {n p : ℕ} (k : X → Read Y) → m ≡ accepted x → k x ≡ refused n p → ◌>>=◌ m k ≡ refused n p
passed k h g = ap (λ z. ◌>>=◌ z k) h ∙ g

pub not_accepted : {X : Type 0} {n p : ℕ} {x : X} → accepted x ≡ refused n p → ⊥
not_accepted e = not_refused (sym e)

-- a test that failed
pub failed : (b : Bool) (k q : ℕ) {n p : ℕ} → check b k q ≡ refused n p → (b ≡ false) × (n ≡ k) × (p ≡ q)
failed true k q h = absurd (not_accepted h)
failed false k q h = (refl, cc, cc)

-- a last line, which makes something of what was accepted, is not refused
pub unmade : {X Y : Type 0} (m : Read X) (make : X → Y) {n p : ℕ} → ◌>>=◌ m (λ x. accepted (make x)) ≡ refused n p → m ≡ refused n p
unmade (accepted x) make h = absurd (not_accepted h)
unmade (refused n p) make h = cc

-- ---- faults

-- The answer is a refusal exactly if that refusal is due at one of the sites.
pub record Faults {X : Type 0} (f : List ℕ) (m : Read X) (come : Sites) : Type 0 where
  pub found : {n p : ℕ} → m ≡ refused n p → Fault f come n p
  pub answers : {n p : ℕ} {site : Site} → come site p → Due f n p site → m ≡ refused n p

-- a fault of a part is one of the whole
pub within : {f : List ℕ} {part whole : Sites} {n p : ℕ} → ((site : Site) → part site p → whole site p) → Fault f part n p → Fault f whole n p
within h e = record { site = e.site; there = h e.site e.there; due = e.due }

-- what holds of one site
pub alone : (come : Sites) {one : Site} {at p : ℕ} → come one at → (site : Site) → Only one at site p → come site p
alone come h site only = h

-- the faults of a line, and then those of what follows it
pub line : {X Y : Type 0} {f : List ℕ} {m : Read X} {k : X → Read Y} {part whole : Sites} {n p : ℕ} → Faults f m part → ◌>>=◌ m k ≡ refused n p
    → ((site : Site) → part site p → whole site p) → ((x : X) → m ≡ accepted x → k x ≡ refused n p → Fault f whole n p) → Fault f whole n p
line {m = m} faults h inside later = elim (stops m h) [ first g ↦ within inside (faults.found g) | after x a g ↦ later x a g ]
