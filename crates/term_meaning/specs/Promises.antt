-- The laws of values, of raw heaps and of the relations. From first-order logic: terms have values, and validity depends on the formula alone. Own: the exact statements.
use Rattle.std.specs.Prelude.{◌≡◌, ◌↔◌, ℕ, ◌<◌, ◌++◌, List, length, Bool, true}
use Rattle.object_types.specs.declared.references.Ref.{Ref}
use Rattle.object_types.specs.Heap.{Heap, Same}
use Rattle.method.specs.declared.program.Program.{Program}
use Rattle.method.specs.WellFormed.{IsHeapOf, WellFormed}
use Rattle.method.specs.Legal.{Untouched, Legal, Kept, Good}
use Rattle.method.specs.Rely.{Rely, Frame}
use Rattle.terms.specs.declared.sort.Sort.{Sort}
use Rattle.term_meaning.specs.RawHeaps.{raw}
use Rattle.term_meaning.specs.ValueSorts.{HasSort, AreSorts}
use Rattle.term_meaning.specs.RawRelations.{IsUntouched, IsSys, IsGood, IsLegal, IsKept, IsRely, IsFrame}
use Rattle.terms.specs.declared.term.Term.{Term}
use Rattle.terms.specs.Formula.{Formula, Stands}
use Rattle.term_bank.specs.Bank.{IsBank}
use Rattle.term_meaning.specs.Meaning.{Language, Env, IsEnv, Value, IsValuation, IsAlwaysTrue, IsValid, Gives}

-- whether or not it can be decided, it can't be that there is none
abbrev pub NotNot : Type 0 → Type 0
NotNot P = (P → ⊥) → ⊥

-- each environment has a valuation of each list, up to double negation
abbrev pub ValuationsExist : Type 0
ValuationsExist = (l : Language) (e : Env) (terms : List Term) → IsBank terms → NotNot ((v : ℕ → Value) × IsValuation l e terms v)

-- what a test answers may be shown from a valuation
abbrev pub ValuationsDecide : Type 0
ValuationsDecide = (l : Language) (e : Env) (terms : List Term) (test : Bool) → IsBank terms →
    ((v : ℕ → Value) → IsValuation l e terms v → test ≡ true) → test ≡ true

-- two valuations of a list give each of its terms one value
abbrev pub ValuationsAgree : Type 0
ValuationsAgree = (l : Language) (e : Env) (terms : List Term) (v w : ℕ → Value) → IsBank terms →
    IsValuation l e terms v → IsValuation l e terms w → (i : ℕ) → i < length terms → v i ≡ w i

-- what is always true with more terms in the list is so without them
abbrev pub FrontsSuffice : Type 0
FrontsSuffice = (l : Language) (terms more : List Term) (root : ℕ) → IsBank (terms ++ more) →
    root < length terms → IsAlwaysTrue l (terms ++ more) root → IsAlwaysTrue l terms root

-- a valuation gives a term the value of its tree
abbrev pub TreesHaveValues : Type 0
TreesHaveValues = (l : Language) (e : Env) (terms : List Term) (v : ℕ → Value) (id : ℕ) (f : Formula) → IsValuation l e terms v → Stands terms id f → Gives l e f (v id)

-- so a formula is true in every environment exactly where a term that stands for it is
abbrev pub ValidityByNumber : Type 0
ValidityByNumber = (l : Language) (terms : List Term) (id : ℕ) (f : Formula) → IsBank terms → Stands terms id f →
    (IsValid l f → IsAlwaysTrue l terms id) × (IsAlwaysTrue l terms id → IsValid l f)

-- two heaps of the program with one raw heap have the same records
abbrev pub HeapsAreOne : Type 0
HeapsAreOne = (p : Program) (h k : Heap) → IsHeapOf p h → IsHeapOf p k → raw p h ≡ raw p k → Same h k

-- what a step doesn't touch as its columns say, it doesn't touch
abbrev pub UntouchedByColumns : Type 0
UntouchedByColumns = (p : Program) (h k : Heap) → IsHeapOf p h → IsHeapOf p k →
    (o : Ref) → IsUntouched p o (raw p h) (raw p k) → Untouched p o h k

-- a relation holds of the columns of heaps of the program exactly where it holds of the heaps
pub record AreRelated (p : Program) (h k : Heap) : Type 0 where
  pub sys : IsSys p (raw p h) ↔ WellFormed p h
  pub good : IsGood p (raw p h) ↔ Good p h
  pub legal : IsLegal p (raw p h) (raw p k) ↔ Legal p h k
  pub kept : IsKept p (raw p h) (raw p k) ↔ Kept p h k
  pub rely : (t : Ref) → IsRely p t (raw p h) (raw p k) ↔ Rely p t h k
  pub frame : (t : Ref) (e : Heap) (w : List Ref) → IsHeapOf p e → IsFrame p t (raw p h) (raw p k) (raw p e) w ↔ Frame p t h k e w

abbrev pub RelationsAgree : Type 0
RelationsAgree = (p : Program) (h k : Heap) → IsHeapOf p h → IsHeapOf p k → AreRelated p h k

-- a term that has a sort has a value of it
abbrev pub ValuesHaveSorts : Type 0
ValuesHaveSorts = (l : Language) (e : Env) (terms : List Term) (v : ℕ → Value) (sorts : ℕ → Sort) →
    IsEnv l.program e → IsBank terms → IsValuation l e terms v → AreSorts l terms sorts → (i : ℕ) → i < length terms → HasSort l.program (sorts i) (v i)
