-- Paths of checks, and of checks and facts in turn, as an action's way along them.
use Rattle.std.proofs.Common.{◌≡◌, ℕ, ◌+◌, Bool, List, subst, arith}
use Rattle.object_types.specs.declared.references.Ref.{Ref}
use Rattle.object_types.specs.Heap.{Heap}
use Rattle.term_meaning.specs.Meaning.{Language}
use Rattle.conditions.specs.Paths.{Path, Execution, sequence, facts, checks}
use Rattle.conditions.specs.Code.{State}
use Rattle.conditions.specs.Ways.{AllHold, FailsIn}
use Rattle.conditions.proofs.Ways.{facts_both, fails_first, fails_then}
use Rattle.conditions.proofs.FromRuns.{Count, IsWithin, Values, count_of}
use Rattle.conditions.proofs.FromRuns as runs
use Rattle.conditions.proofs.Tests.{AllTrue, FirstFalse}
use Rattle.conditions.proofs.PathTests.{Tested, tested_holds, tested_fails}
use Rattle.condition_meaning.proofs.Environments.{Environment, Agree, agree_self, agree_then, agree_less, Holds, Is, holds_is, is_false}
use Rattle.condition_meaning.proofs.Extensions.{Extension}
use Rattle.condition_meaning.proofs.Walks.{Matches, Follows, Breaks}

module _ (l : Language) (t : Ref) where
  -- no constant is made, or none that matters
  abbrev pub no_extension : (c d : Count) → IsWithin c d → Extension l t c d
  no_extension = runs.no_extension (Environment l t) (Agree l t) (agree_self l t) (agree_then l t) (agree_less l t)

  -- constants from c to d, and then from d to e
  abbrev pub both_extensions : (c d e : Count) → Extension l t c d → Extension l t d e → Extension l t c e
  both_extensions = runs.both_extensions (Environment l t) (Agree l t) (agree_self l t) (agree_then l t) (agree_less l t)

  pub same_count : (c d : Count) → c ≡ d → IsWithin c d
  same_count c d same = subst (λ g. IsWithin c g) same (record { integers = omega arith; references = omega arith; heaps = omega arith })

  -- where each test passes, its checks hold; at the first false one its check fails
  pub passes : (e : Environment l t) (q : Path) (bs : List Bool) → Tested (Is l t e) q bs → AllTrue bs → AllHold (Environment l t) (Holds l t) e (facts q)
  passes e = tested_holds (Environment l t) e (Holds l t) (Is l t e) (holds_is l t e) (is_false l t e)

  pub fails : (e : Environment l t) (label n : ℕ) (q : Path) (bs : List Bool) → Tested (Is l t e) q bs → FirstFalse label n bs → FailsIn (Environment l t) (Holds l t) label n q e
  fails e = tested_fails (Environment l t) e (Holds l t) (Is l t e) (holds_is l t e) (is_false l t e)

  -- What is so before a path gives what is so behind it, with constants from c to d.
  pub record Goes (c d : Count) (q : Path) (Pre Post : Environment l t → Type 0) : Type 1 where
    pub extension : Extension l t c d
    pub goes : (e : Environment l t) → extension.So e → Pre e → AllHold (Environment l t) (Holds l t) e (facts q) × Post e

  -- the check with this number on the path fails
  pub record Fails (label n : ℕ) (c d : Count) (q : Path) (Pre : Environment l t → Type 0) : Type 1 where
    pub extension : Extension l t c d
    pub fails : (e : Environment l t) → extension.So e → Pre e → FailsIn (Environment l t) (Holds l t) label n q e

  pub goes_tested : (c d : Count) (q : Path) (bs : List Bool) (Pre Post : Environment l t → Type 0) → IsWithin c d → AllTrue bs → ((e : Environment l t) → Pre e → Tested (Is l t e) q bs × (AllTrue bs → Post e)) → Goes c d q Pre Post
  goes_tested c d q bs Pre Post within b k = record { extension = no_extension c d within; goes = λ e so pre. let z = k e pre in (passes e q bs z.0 b, z.1 b) }

  pub fails_tested : (label n : ℕ) (c d : Count) (q : Path) (bs : List Bool) (Pre : Environment l t → Type 0) → IsWithin c d → FirstFalse label n bs → ((e : Environment l t) → Pre e → Tested (Is l t e) q bs) → Fails label n c d q Pre
  fails_tested label n c d q bs Pre within b k = record { extension = no_extension c d within; fails = λ e so pre. fails e label n q bs (k e pre) b }

  pub goes_then : (c d g : Count) (q r : Path) (P Q R : Environment l t → Type 0) → Goes c d q P Q → Goes d g r Q R → Goes c g (sequence q r) P R
  unfolding runs.both_extensions
  goes_then c d g q r P Q R x y = record {
    extension = both_extensions c d g x.extension y.extension;
    goes = λ e so pre. let z = x.goes e so.0 pre in let w = y.goes e so.1 z.1 in (facts_both (Environment l t) (Holds l t) q r e z.0 w.0, w.1);
  }

  pub fails_here : (label n : ℕ) (c d g : Count) (q r : Path) (P : Environment l t → Type 0) → IsWithin d g → Fails label n c d q P → Fails label n c g (sequence q r) P
  unfolding runs.both_extensions runs.no_extension
  fails_here label n c d g q r P within x = record {
    extension = both_extensions c d g x.extension (no_extension d g within);
    fails = λ e so pre. fails_first (Environment l t) (Holds l t) label n q r e (x.fails e so.0 pre);
  }

  pub fails_behind : (label n : ℕ) (c d g : Count) (q r : Path) (P Q : Environment l t → Type 0) → Goes c d q P Q → Fails label (n + checks q) d g r Q → Fails label n c g (sequence q r) P
  unfolding runs.both_extensions
  fails_behind label n c d g q r P Q x y = record {
    extension = both_extensions c d g x.extension y.extension;
    fails = λ e so pre. let z = x.goes e so.0 pre in fails_then (Environment l t) (Holds l t) label n q r e z.0 (y.fails e so.1 z.1);
  }

  pub goes_map : (c d : Count) (q : Path) (P P' Q Q' : Environment l t → Type 0) → ((e : Environment l t) → P' e → P e) → ((e : Environment l t) → P' e → Q e → Q' e) → Goes c d q P Q → Goes c d q P' Q'
  goes_map c d q P P' Q Q' i j x = record { extension = x.extension; goes = λ e so pre. let z = x.goes e so (i e pre) in (z.0, j e pre z.1) }

  pub fails_map : (label n : ℕ) (c d : Count) (q : Path) (P P' : Environment l t → Type 0) → ((e : Environment l t) → P' e → P e) → Fails label n c d q P → Fails label n c d q P'
  fails_map label n c d q P P' i x = record { extension = x.extension; fails = λ e so pre. x.fails e so (i e pre) }

  pub goes_to : (c d d' : Count) (q : Path) (P Q : Environment l t → Type 0) → d ≡ d' → Goes c d q P Q → Goes c d' q P Q
  goes_to c d d' q P Q same x = subst (λ z. Goes c z q P Q) same x

  module _ (size : ℕ) (Spotted : Environment l t → Type 0) where
    pub follows_goes : (a b : ℕ → Bool) (st : State) (q : Execution State) (h h' : Heap) (v v' : Values) → Goes (count_of st) (count_of q.gives) q.path (λ e. Matches l t size Spotted a e st h v) (λ e. Matches l t size Spotted b e q.gives h' v') → Follows l t size Spotted a b st q h v h' v'
    follows_goes a b st q h h' v v' x = record { extension = x.extension; goes = x.goes }

    pub breaks_fails : (label n : ℕ) (a : ℕ → Bool) (st : State) (q : Execution State) (h : Heap) (v : Values) → Fails label n (count_of st) (count_of q.gives) q.path (λ e. Matches l t size Spotted a e st h v) → Breaks l t size Spotted label n a st q h v
    breaks_fails label n a st q h v x = record { extension = x.extension; fails = x.fails }
