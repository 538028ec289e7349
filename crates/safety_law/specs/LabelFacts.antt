-- What each label of a program says, and the laws that these facts are enough and no more than is asked. Own; each check is shown once, as in CAV 2010: of a type, of a claim site, or of a function alone.
use Rattle.std.specs.Prelude.{◌≡◌, ℕ, ◌+◌, ◌-◌, ◌≤◌, Bool, true, false, List, Some, slice_get, IsTrue}
use Rattle.object_types.specs.declared.values.Value.{Value}
use Rattle.method.specs.declared.program.CheckKind.{CheckKind}
use Rattle.method.specs.declared.program.CheckKind.TheVariants.{ClaimStable as ClaimStableKind, Reflexive as ReflexiveKind, Stable as StableKind}
use Rattle.method.specs.declared.program.Item.{Item}
use Rattle.method.specs.declared.program.Item.TheVariants.{Struct, Function}
use Rattle.method.specs.declared.program.ClaimSite.{ClaimSite}
use Rattle.method.specs.declared.program.FunctionInfo.{FunctionInfo}
use Rattle.method.specs.declared.program.Program.{Program}
use Rattle.object_types.specs.Heap.{Heap}
use Rattle.method.specs.Legal.{Good}
use Rattle.method.specs.Expressions.{Context}
use Rattle.method.specs.Admissible.{Reflexive, Stable, ClaimStable, Admissible}
use Rattle.method.specs.Labels.{labels, ProgramLabel, program_labels}
use Rattle.method.specs.LocalRuns.{FailsBody, LocalOk, AllLocalOk}
use Rattle.method.specs.Machine.{State, IsStart, IsFine, Safe}
use Rattle.method.specs.MachineLaws.{Choice, step_any, run_with}
use Rattle.method.specs.Typing.{returns_value, WellTyped}
use Rattle.safety_law.specs.SitePlaces.{function_places, is_placed}

-- The machine makes checks of this kind. The others are shown once, of a type or of a claim site.
abbrev pub is_checked : CheckKind → Bool
is_checked ClaimStableKind = false
is_checked ReflexiveKind = false
is_checked StableKind = false
is_checked _ = true

-- The function has a label with this number, of a kind that the machine checks.
pub record CheckAt (p : Program) (f : FunctionInfo) (number : ℕ) : Type 0 where
  pub kind : CheckKind
  pub line : ℕ
  pub above : 1 ≤ number
  pub there : slice_get (labels p f) (number - 1) ≡ Some (record { kind = kind; line = line })
  pub checked : IsTrue (is_checked kind)

-- A local run fails only at numbers of its function's labels, and at none that is about a claim's stability.
abbrev pub LocalFaultsAreLabelled : Type 0
LocalFaultsAreLabelled =
    (p : Program) (x : Context) (f : FunctionInfo) → IsTrue (returns_value f.result f.body.items) → (number : ℕ) (h : Heap) (l : List Value) → FailsBody p x f number f.body.items 1 h l →
    CheckAt p f number

-- What a label of a type says: that its invariants are reflexive, or stable.
abbrev pub TypeFact : Program → ℕ → CheckKind → Type 0
TypeFact p ty ReflexiveKind = Reflexive p ty
TypeFact p ty StableKind = Stable p ty
TypeFact p ty _ = Unit {0}

-- What a label of function k says: that no local run fails the check with this number; of a claim's stability, that the claim site which has this number is stable.
abbrev pub FunctionFact : Program → ℕ → ℕ → CheckKind → Type 0
FunctionFact p k number ClaimStableKind =
    (n : ℕ) (site : ClaimSite) → slice_get p.sites.items n ≡ Some site → IsTrue (is_placed n number (function_places p (slice_get p.functions.items k))) → ClaimStable p site
FunctionFact p k number _ = LocalOk p k number

-- What a label of an item says; structs have the types from 3 on.
abbrev pub ItemFact : Program → Item → ℕ → CheckKind → Type 0
ItemFact p (Struct n) number kind = TypeFact p (n + 3) kind
ItemFact p (Function k) number kind = FunctionFact p k number kind

-- A claim site whose stability is the check of function k with this number.
pub record SiteAt (p : Program) (k number : ℕ) : Type 0 where
  pub which : ℕ
  pub site : ClaimSite
  pub is : slice_get p.sites.items which ≡ Some site
  pub placed : IsTrue (is_placed which number (function_places p (slice_get p.functions.items k)))

-- Each label of a claim's stability is about a claim site.
abbrev pub SitesAreLabelled : Type 0
SitesAreLabelled =
    (p : Program) (k : ℕ) (f : FunctionInfo) → slice_get p.functions.items k ≡ Some f → (i line : ℕ) →
    slice_get (labels p f) i ≡ Some (record { kind = ClaimStableKind; line = line }) → SiteAt p k (1 + i)

-- It is about one claim site alone.
abbrev pub SitesAreSingle : Type 0
SitesAreSingle =
    (p : Program) (k number a b : ℕ) → let places = function_places p (slice_get p.functions.items k) in
    IsTrue (is_placed a number places) → IsTrue (is_placed b number places) → a ≡ b

-- What a label of the program says.
abbrev pub LabelHolds : Program → ProgramLabel → Type 0
LabelHolds p l = ItemFact p l.item l.ordinal l.check.kind

-- All that the program's labels say.
abbrev pub AllLabelsHold : Program → Type 0
AllLabelsHold p = (i : ℕ) (l : ProgramLabel) → slice_get (program_labels p) i ≡ Some l → LabelHolds p l

-- What the labels say is all that is asked: of types without labels, of other numbers and of claim sites too.
abbrev pub LabelsSuffice : Type 0
LabelsSuffice = (p : Program) → WellTyped p → AllLabelsHold p → Admissible p × AllLocalOk p

-- The labels say no more than is asked.
abbrev pub LabelsAreNeeded : Type 0
LabelsAreNeeded = (p : Program) → Admissible p → AllLocalOk p → AllLabelsHold p

-- A well-typed program whose labels hold is safe in every interleaving.
abbrev pub LabelsMeanSafe : Type 0
LabelsMeanSafe = (p : Program) → WellTyped p → AllLabelsHold p → Safe p

-- The same where each malloc and each claim takes any absent reference of its type.
abbrev pub LabelsMeanSafeAnyReferences : Type 0
LabelsMeanSafeAnyReferences =
    (p : Program) → WellTyped p → AllLabelsHold p → (s : State) → IsStart p s → Good p s.heap → (cs : List Choice) (c : Choice) →
    let s' = run_with p cs s in IsFine p s' (step_any p c s')
