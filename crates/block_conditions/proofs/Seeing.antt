-- What the statements of a block, claims and starts of threads read and set, where some variables are hidden.
use Rattle.std.proofs.Common.{◌≡◌, ℕ, zero, suc, ◌+◌, Bool, true, false, List, [], ◌∷◌, length, Option, Some, None, slice_get, refl, ap}
use Rattle.action_conditions.proofs.Assigns.{Sees, SeesTarget}
use Rattle.object_types.specs.declared.values.Value.{Value}
use Rattle.object_types.specs.Sets.{every}
use Rattle.method.specs.declared.program.Hole.{Hole}
use Rattle.method.specs.declared.program.Hole.TheVariants.{OfVariable}
use Rattle.method.specs.declared.program.Conjunct.{Conjunct}
use Rattle.method.specs.declared.program.Claimed.{Claimed}
use Rattle.method.specs.declared.program.Claimed.TheVariants.{ClaimedVariable, ClaimedNull, ClaimedOther}
use Rattle.method.specs.declared.program.ClaimSite.{ClaimSite}
use Rattle.method.specs.declared.program.RightSide.{RightSide}
use Rattle.method.specs.declared.program.RightSide.TheVariants.{Compute, Malloc, NewClaim, Interlocked}
use Rattle.method.specs.declared.program.Simple.{Simple}
use Rattle.method.specs.declared.program.Simple.TheVariants.{Assign, ChangeOwned, EndClaim}
use Rattle.method.specs.declared.program.Inner.{Inner, Row_of-Inner, end_of-Inner, more_of-Inner}
use Rattle.method.specs.declared.program.Inner.TheVariants.{Inside, InsideIf'}
use Rattle.method.specs.declared.program.VariableInfo.{VariableInfo}
use Rattle.method.specs.declared.program.FunctionInfo.{FunctionInfo}
use Rattle.method.specs.declared.program.Program.{Program}
use Rattle.method.specs.Tables.{local, in_type}
use Rattle.method.specs.WellFormed.{is_value}
use Rattle.method.specs.Text.{inner_row_sets}
use Rattle.method.specs.Actions.{operands}
use Rattle.method.specs.Typing.{is_type}
use Rattle.method.proofs.Global.{and_both}
use Rattle.machine_laws.proofs.Typed.{all_typed, Env}
use Rattle.machine_laws.proofs.Records.{value_of_type}
use Rattle.conditions.specs.Symbolic.{Symbolic}
use Rattle.conditions.specs.Quantified.{quantified_formula, listed_quantified}
use Rattle.conditions.proofs.Hiding.{Quiet}
use Rattle.condition_walks.proofs.Kept.{Out, Kept, same_both}
use Rattle.block_conditions.proofs.Interlocked.{AllSee, SeesThen}

-- what is claimed reads nothing hidden
abbrev pub SeesClaimed : (ℕ → Bool) → List Claimed → Type 0
SeesClaimed hid [] = Unit {0}
SeesClaimed hid (ClaimedVariable i ∷ cs) = (hid i ≡ false) × SeesClaimed hid cs
SeesClaimed hid (ClaimedNull ∷ cs) = SeesClaimed hid cs
SeesClaimed hid (ClaimedOther y ty ∷ cs) = Sees hid y × SeesClaimed hid cs

-- nor do the holes of a conjunct
abbrev pub SeesHoles : (ℕ → Bool) → List Hole → Type 0
SeesHoles hid [] = Unit {0}
SeesHoles hid (OfVariable i ∷ hs) = (hid i ≡ false) × SeesHoles hid hs
SeesHoles hid (h ∷ hs) = SeesHoles hid hs

-- nor do conjuncts
abbrev pub SeesConjuncts : (ℕ → Bool) → List Conjunct → Type 0
SeesConjuncts hid [] = Unit {0}
SeesConjuncts hid (c ∷ cs) = SeesHoles hid c.holes.items × SeesConjuncts hid cs

-- nor does the place where a claim is made
abbrev pub SeesSite : (ℕ → Bool) → Option ClaimSite → Type 0
SeesSite hid None = Unit {0}
SeesSite hid (Some s) = SeesClaimed hid s.claimed.items × SeesConjuncts hid s.conjuncts.items

-- nor does a right side
abbrev pub SeesRight : Program → (ℕ → Bool) → RightSide → Type 0
SeesRight p hid (Compute y) = Sees hid y
SeesRight p hid (Malloc ty) = Unit {0}
SeesRight p hid (NewClaim n) = SeesSite hid (slice_get p.sites.items n)
SeesRight p hid (Interlocked y x op then') = Sees hid y × AllSee hid (operands op) × SeesThen hid then'

-- nor does a simple statement
abbrev pub SeesSimple : Program → (ℕ → Bool) → Simple → Type 0
SeesSimple p hid (Assign z r) = SeesTarget hid z × SeesRight p hid r
SeesSimple p hid (ChangeOwned c y ys) = Sees hid y × AllSee hid ys.items
SeesSimple p hid (EndClaim q y ys) = Sees hid y × AllSee hid ys.items × (quantified_formula p q ≡ Some (listed_quantified q (length ys.items)))

-- what is hidden isn't set
abbrev pub Unset : {m n : _} → (ℕ → Bool) → Row_of-Inner m → Row_of-Inner n → Type 0
Unset hid ra rb = (i : ℕ) → hid i ≡ true → Out (inner_row_sets ra) i × Out (inner_row_sets rb) i

abbrev mutual
  pub SeesInner : Program → (ℕ → Bool) → Inner → Type 0
  SeesInner p hid (Inside line s) = SeesSimple p hid s
  SeesInner p hid (InsideIf' line y m ra n rb) = Sees hid y × SeesRow p hid ra × SeesRow p hid rb × Unset hid ra rb

  pub SeesRow : {m : _} → Program → (ℕ → Bool) → Row_of-Inner m → Type 0
  SeesRow p hid end_of-Inner = Unit {0}
  SeesRow p hid (more_of-Inner i row) = SeesInner p hid i × SeesRow p hid row

-- nor do the statements of a block
abbrev pub SeesList : Program → (ℕ → Bool) → List Inner → Type 0
SeesList p hid [] = Unit {0}
SeesList p hid (i ∷ is) = SeesInner p hid i × SeesList p hid is

-- Variables that no branch sets have the same terms behind both.
pub same_unset : (hid : ℕ → Bool) (set set' : List ℕ) → ((i : ℕ) → hid i ≡ true → Out set i × Out set' i) → (i : ℕ) (ws xs ys : List Symbolic) → Kept set i ws xs → Kept set' i ws ys → Quiet [] hid i xs ys
same_unset hid set set' unset i [] [] [] kx ky = tt
same_unset hid set set' unset i [] [] (y ∷ ys) kx ky = ky
same_unset hid set set' unset i [] (x ∷ xs) ys kx ky = absurd kx
same_unset hid set set' unset i (w ∷ ws) [] ys kx ky = absurd kx
same_unset hid set set' unset i (w ∷ ws) (x ∷ xs) [] kx ky = ky
same_unset hid set set' unset i (w ∷ ws) (x ∷ xs) (y ∷ ys) kx ky = ((λ h d. let o = unset i h in same_both x y w (kx.0 o.0) (ky.0 o.1)), same_unset hid set set' unset (i + 1) ws xs ys kx.1 ky.1)

pub kept_many : (set : List ℕ) (i : ℕ) (ws xs : List Symbolic) → Kept set i ws xs → length xs ≡ length ws
kept_many set i [] [] k = refl
kept_many set i [] (x ∷ xs) k = absurd k
kept_many set i (w ∷ ws) [] k = absurd k
kept_many set i (w ∷ ws) (x ∷ xs) k = ap suc (kept_many set (i + 1) ws xs k.1)

-- each variable's value is an integer or a reference
values_named : (p : Program) (vs : List VariableInfo) (l : List Value) → every (λ (v : VariableInfo). is_type p v.ty) vs ≡ true → all_typed vs l ≡ true → (i : ℕ) → is_value (local l i) ≡ true
values_named p [] [] t e i = refl
values_named p [] (v ∷ l) t e i = absurd (cc)
values_named p (w ∷ vs) [] t e i = absurd (cc)
values_named p (w ∷ vs) (v ∷ l) t e zero = value_of_type p w.ty v (and_both (is_type p w.ty) (every (λ (v : VariableInfo). is_type p v.ty) vs) t).0 (and_both (in_type w.ty v) (all_typed vs l) e).0
values_named p (w ∷ vs) (v ∷ l) t e (suc i) = values_named p vs l (and_both (is_type p w.ty) (every (λ (v : VariableInfo). is_type p v.ty) vs) t).1 (and_both (in_type w.ty v) (all_typed vs l) e).1 i

pub env_values : (p : Program) (f : FunctionInfo) (h : _) (l : List Value) → Env p f h l → (i : ℕ) → is_value (local l i) ≡ true
env_values p f h l env i = values_named p f.variables.items l env.types env.locals i
