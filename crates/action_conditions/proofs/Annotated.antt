-- The plain actions of an annotated program beside their paths of checks and facts: act_follows, act_breaks (from a run to an environment), act_back, act_fails_back, declare_back (from an environment to a run), and the two halves of unwrapping.
-- Premises: the program is well typed and annotated; the function stands in its table, who runs it is a thread, the heap at entry is one of the program, the arguments fit; the place is steady and its terms are of the sorts of their types;
-- the action fits in scope and types, an assertion's annotation fits and a wrap has its formula (IsPlain). The way back is of actions without a malloc (IsAlone).
use Rattle.std.proofs.Common.{◌≡◌, ℕ, Bool, true, List, [], Some, slice_get}
use Rattle.object_types.specs.declared.references.Ref.{Ref}
use Rattle.object_types.specs.declared.values.Value.{Value}
use Rattle.object_types.specs.declared.values.Value.TheVariants.{Ref as Refers}
use Rattle.object_types.specs.References.{is_thread}
use Rattle.object_types.specs.Heap.{Heap}
use Rattle.method.specs.declared.program.DeclaredType.TheVariants.{Pointer}
use Rattle.method.specs.declared.program.Spec.{Spec}
use Rattle.method.specs.declared.program.Action.{Action}
use Rattle.method.specs.declared.program.Action.TheVariants.{Declare}
use Rattle.method.specs.declared.program.Stmt.TheVariants.{Do}
use Rattle.method.specs.declared.program.FunctionInfo.{FunctionInfo}
use Rattle.method.specs.declared.program.Program.{Program}
use Rattle.method.specs.Tables.{local, in_type, is_struct}
use Rattle.method.specs.Machine.{fit_parameters}
use Rattle.method.specs.WellFormed.{IsHeapOf}
use Rattle.method.specs.Typing.{WellTyped}
use Rattle.method.specs.Expressions.{Context}
use Rattle.method.specs.Actions.{Chosen, act, spot, starting, unwrap_object, wrap_object}
use Rattle.method.specs.LocalRuns.{ActsTo, FailsAt}
use Rattle.terms.specs.Formula.{Formula}
use Rattle.term_meaning.specs.Meaning.{Language}
use Rattle.conditions.specs.Paths.{facts}
use Rattle.conditions.specs.Code.{Spot, State}
use Rattle.conditions.specs.Actions.{run_action}
use Rattle.conditions.specs.Actions as p_
use Rattle.conditions.specs.Ways.{AllHold, FailsIn}
use Rattle.conditions.proofs.Hiding.{after_stmt}
use Rattle.condition_walks.proofs.TermSorts.{AllSorted}
use Rattle.condition_walks.proofs.Fitting.{FitsAction}
use Rattle.condition_meaning.specs.Languages.{language_of}
use Rattle.condition_meaning.specs.Annotated.{Annotated}
use Rattle.condition_meaning.proofs.Faithful.{faithful}
use Rattle.condition_meaning.proofs.Environments.{Environment, Has, Holds}
use Rattle.condition_meaning.proofs.Walks.{Follows, Breaks}
use Rattle.action_conditions.proofs.Steady.{Steady}
use Rattle.action_conditions.proofs.Plain as plain
use Rattle.action_conditions.proofs.Annotations as notes

module _ (p : Program) (good : Annotated p) (typed : WellTyped p) (f : FunctionInfo) (x : Context) (fis : slice_get p.functions.items x.function ≡ Some f) (t : Ref) (mine : x.me ≡ t) (thread : is_thread x.me ≡ true) (a : Spot) (entry : IsHeapOf p x.entry) (args : fit_parameters f x.args ≡ true) where
  abbrev l : Language
  l = language_of p

  -- an assertion's annotation fits, and its quantified formulas are the program's
  abbrev pub FitsHere : (ℕ → Bool) → Spec → Type 0
  FitsHere = notes.FitsHere p good f x fis t mine a entry args

  -- a wrap's formula is the program's, and the members of a fixed owned set fit
  abbrev pub FitsWrap : ℕ → ℕ → Type 0
  FitsWrap = notes.FitsWrap p good f x fis t mine a entry args typed thread

  -- a plain action, whose assertion fits and whose wrap has its formula in the text
  abbrev pub IsPlain : (ℕ → Bool) → Action → Type 0
  IsPlain = plain.IsPlain l typed t f x fis mine thread a (faithful p good) FitsHere (notes.spec_told p good f x fis t mine a entry args typed thread) FitsWrap (λ ty q at_ hid st h v fit s fixed. notes.mine_told p good f x fis t mine a entry args typed thread ty at_ hid st h v fit.names s)
      (notes.members_told p good f x fis t mine a entry args typed thread)

  abbrev size : ℕ
  size = plain.size l typed t f x fis mine thread a

  abbrev Spotted : Environment l t → Type 0
  Spotted = plain.Spotted l typed t f x fis mine thread a

  abbrev MatchesHere : (ℕ → Bool) → Environment l t → State → Heap → List Value → Type 0
  MatchesHere = plain.MatchesHere l typed t f x fis mine thread a

  pub act_follows : (hid : ℕ → Bool) (line n : ℕ) (c : Action) (choices : List Value) (news : List Ref) (st : State) (h h' : Heap) (v v' : List Value) → FitsAction p x.function f hid c → IsPlain hid c → AllSorted f.variables.items st.locals → Steady p f h v → ActsTo p x f (act p x choices (Chosen news) line c n h v) h' v'
      → Follows l t size Spotted hid (after_stmt (Do line c) hid) st (run_action p a f c st) h (local v) h' (local v')
  act_follows = plain.act_follows l typed t f x fis mine thread a (faithful p good) FitsHere (notes.spec_told p good f x fis t mine a entry args typed thread) FitsWrap (λ ty q at_ hid st h v fit s fixed. notes.mine_told p good f x fis t mine a entry args typed thread ty at_ hid st h v fit.names s)
      (notes.members_told p good f x fis t mine a entry args typed thread)

  pub act_breaks : (label : ℕ) (hid : ℕ → Bool) (line n : ℕ) (c : Action) (choices : List Value) (news : List Ref) (st : State) (h : Heap) (v : List Value) → FitsAction p x.function f hid c → IsPlain hid c → AllSorted f.variables.items st.locals → Steady p f h v → FailsAt label (act p x choices (Chosen news) line c n h v)
      → Breaks l t size Spotted label n hid st (run_action p a f c st) h (local v)
  act_breaks = plain.act_breaks l typed t f x fis mine thread a (faithful p good) FitsHere (notes.spec_told p good f x fis t mine a entry args typed thread) FitsWrap (λ ty q at_ hid st h v fit s fixed. notes.mine_told p good f x fis t mine a entry args typed thread ty at_ hid st h v fit.names s)
      (notes.members_told p good f x fis t mine a entry args typed thread)

  -- the second half of unwrapping
  pub wrap_goes : (hid : ℕ → Bool) (ty line n : ℕ) (o : Formula) (r : Ref) (st : State) (h : Heap) (v : List Value) (struct : is_struct p ty ≡ true) (in_it : in_type (Pointer ty) (Refers r) ≡ true) (s : Steady p f h v) (q : ℕ) (fits : FitsWrap ty q) (h' : Heap) (v' : List Value)
      → ActsTo p x f (wrap_object p (spot x [] line) ty r n (starting h v (Chosen []))) h' v' → (e : Environment l t) → Has l t e o (Refers r) → MatchesHere hid e st h v → AllHold (Environment l t) (Holds l t) e (facts (p_.wrap_object p a ty q o st).path) × MatchesHere hid e (p_.wrap_object p a ty q o st).gives h' v'
  wrap_goes = plain.wrap_goes l typed t f x fis mine thread a (faithful p good) FitsHere (notes.spec_told p good f x fis t mine a entry args typed thread) FitsWrap (λ ty q at_ hid st h v fit s fixed. notes.mine_told p good f x fis t mine a entry args typed thread ty at_ hid st h v fit.names s)
      (notes.members_told p good f x fis t mine a entry args typed thread)

  pub wrap_fails : (hid : ℕ → Bool) (ty line n : ℕ) (o : Formula) (r : Ref) (st : State) (h : Heap) (v : List Value) (struct : is_struct p ty ≡ true) (in_it : in_type (Pointer ty) (Refers r) ≡ true) (s : Steady p f h v) (q : ℕ) (fits : FitsWrap ty q) (label : ℕ)
      → FailsAt label (wrap_object p (spot x [] line) ty r n (starting h v (Chosen []))) → (e : Environment l t) → Has l t e o (Refers r) → MatchesHere hid e st h v → FailsIn (Environment l t) (Holds l t) label n (p_.wrap_object p a ty q o st).path e
  wrap_fails = plain.wrap_fails l typed t f x fis mine thread a (faithful p good) FitsHere (notes.spec_told p good f x fis t mine a entry args typed thread) FitsWrap (λ ty q at_ hid st h v fit s fixed. notes.mine_told p good f x fis t mine a entry args typed thread ty at_ hid st h v fit.names s)
      (notes.members_told p good f x fis t mine a entry args typed thread)

  -- the first half of unwrapping
  pub unwrap_goes : (hid : ℕ → Bool) (ty line n : ℕ) (o : Formula) (r : Ref) (st : State) (h : Heap) (v : List Value) (struct : is_struct p ty ≡ true) (in_it : in_type (Pointer ty) (Refers r) ≡ true) (s : Steady p f h v) (h' : Heap) (v' : List Value)
      → ActsTo p x f (unwrap_object p (spot x [] line) r n (starting h v (Chosen []))) h' v' → (e : Environment l t) → Has l t e o (Refers r) → MatchesHere hid e st h v → AllHold (Environment l t) (Holds l t) e (facts (p_.unwrap_object p a o st).path) × MatchesHere hid e (p_.unwrap_object p a o st).gives h' v'
  unwrap_goes = plain.unwrap_goes l typed t f x fis mine thread a (faithful p good) FitsHere (notes.spec_told p good f x fis t mine a entry args typed thread) FitsWrap (λ ty q at_ hid st h v fit s fixed. notes.mine_told p good f x fis t mine a entry args typed thread ty at_ hid st h v fit.names s)
      (notes.members_told p good f x fis t mine a entry args typed thread)

  pub unwrap_fails : (hid : ℕ → Bool) (ty line n : ℕ) (o : Formula) (r : Ref) (st : State) (h : Heap) (v : List Value) (struct : is_struct p ty ≡ true) (in_it : in_type (Pointer ty) (Refers r) ≡ true) (s : Steady p f h v) (label : ℕ)
      → FailsAt label (unwrap_object p (spot x [] line) r n (starting h v (Chosen []))) → (e : Environment l t) → Has l t e o (Refers r) → MatchesHere hid e st h v → FailsIn (Environment l t) (Holds l t) label n (p_.unwrap_object p a o st).path e
  unwrap_fails = plain.unwrap_fails l typed t f x fis mine thread a (faithful p good) FitsHere (notes.spec_told p good f x fis t mine a entry args typed thread) FitsWrap (λ ty q at_ hid st h v fit s fixed. notes.mine_told p good f x fis t mine a entry args typed thread ty at_ hid st h v fit.names s)
      (notes.members_told p good f x fis t mine a entry args typed thread)

  -- The way back.

  -- a plain action that makes no constant: no malloc and no declaration
  abbrev pub IsAlone : (ℕ → Bool) → Action → Type 0
  IsAlone = plain.IsAlone l typed t f x fis mine thread a (faithful p good) FitsHere (notes.spec_told p good f x fis t mine a entry args typed thread) FitsWrap (λ ty q at_ hid st h v fit s fixed. notes.mine_told p good f x fis t mine a entry args typed thread ty at_ hid st h v fit.names s)
      (notes.members_told p good f x fis t mine a entry args typed thread)

  pub act_back : (hid : ℕ → Bool) (line n : ℕ) (c : Action) (st : State) (h : Heap) (v : List Value) (e : Environment l t) → FitsAction p x.function f hid c → IsAlone hid c → AllSorted f.variables.items st.locals → Steady p f h v → MatchesHere hid e st h v → AllHold (Environment l t) (Holds l t) e (facts (run_action p a f c st).path)
      → (h' : Heap) × (v' : List Value) × ActsTo p x f (act p x [] (Chosen []) line c n h v) h' v' × MatchesHere (after_stmt (Do line c) hid) e (run_action p a f c st).gives h' v'
  act_back = plain.act_back l typed t f x fis mine thread a (faithful p good) FitsHere (notes.spec_told p good f x fis t mine a entry args typed thread) FitsWrap (λ ty q at_ hid st h v fit s fixed. notes.mine_told p good f x fis t mine a entry args typed thread ty at_ hid st h v fit.names s)
      (notes.members_told p good f x fis t mine a entry args typed thread)

  pub act_fails_back : (hid : ℕ → Bool) (line n : ℕ) (c : Action) (st : State) (h : Heap) (v : List Value) (e : Environment l t) → FitsAction p x.function f hid c → IsAlone hid c → AllSorted f.variables.items st.locals → Steady p f h v → MatchesHere hid e st h v → (label : ℕ) → FailsIn (Environment l t) (Holds l t) label n (run_action p a f c st).path e
      → FailsAt label (act p x [] (Chosen []) line c n h v)
  act_fails_back = plain.act_fails_back l typed t f x fis mine thread a (faithful p good) FitsHere (notes.spec_told p good f x fis t mine a entry args typed thread) FitsWrap (λ ty q at_ hid st h v fit s fixed. notes.mine_told p good f x fis t mine a entry args typed thread ty at_ hid st h v fit.names s)
      (notes.members_told p good f x fis t mine a entry args typed thread)

  pub declare_back : (hid : ℕ → Bool) (line n i : ℕ) (st : State) (h : Heap) (v : List Value) (e : Environment l t) → FitsAction p x.function f hid (Declare i) → Steady p f h v → MatchesHere hid e st h v → AllHold (Environment l t) (Holds l t) e (facts (run_action p a f (Declare i) st).path)
      → (h' : Heap) × (v' : List Value) × (choices : List Value) × ActsTo p x f (act p x choices (Chosen []) line (Declare i) n h v) h' v' × MatchesHere (after_stmt (Do line (Declare i)) hid) e (run_action p a f (Declare i) st).gives h' v'
  declare_back = plain.declare_back l typed t f x fis mine thread a (faithful p good) FitsHere (notes.spec_told p good f x fis t mine a entry args typed thread) FitsWrap (λ ty q at_ hid st h v fit s fixed. notes.mine_told p good f x fis t mine a entry args typed thread ty at_ hid st h v fit.names s)
      (notes.members_told p good f x fis t mine a entry args typed thread)

  pub unwrap_back : (hid : ℕ → Bool) (ty line n : ℕ) (o : Formula) (r : Ref) (st : State) (h : Heap) (v : List Value) (struct : is_struct p ty ≡ true) (in_it : in_type (Pointer ty) (Refers r) ≡ true) (s : Steady p f h v) (e : Environment l t) → Has l t e o (Refers r) → MatchesHere hid e st h v → AllHold (Environment l t) (Holds l t) e (facts (p_.unwrap_object p a o st).path)
      → (h' : Heap) × (v' : List Value) × ActsTo p x f (unwrap_object p (spot x [] line) r n (starting h v (Chosen []))) h' v' × MatchesHere hid e (p_.unwrap_object p a o st).gives h' v'
  unwrap_back = plain.unwrap_back l typed t f x fis mine thread a (faithful p good) FitsHere (notes.spec_told p good f x fis t mine a entry args typed thread) FitsWrap (λ ty q at_ hid st h v fit s fixed. notes.mine_told p good f x fis t mine a entry args typed thread ty at_ hid st h v fit.names s)
      (notes.members_told p good f x fis t mine a entry args typed thread)

  pub unwrap_fails_back : (hid : ℕ → Bool) (ty line n : ℕ) (o : Formula) (r : Ref) (st : State) (h : Heap) (v : List Value) (struct : is_struct p ty ≡ true) (in_it : in_type (Pointer ty) (Refers r) ≡ true) (s : Steady p f h v) (label : ℕ) (e : Environment l t) → Has l t e o (Refers r) → MatchesHere hid e st h v
      → FailsIn (Environment l t) (Holds l t) label n (p_.unwrap_object p a o st).path e → FailsAt label (unwrap_object p (spot x [] line) r n (starting h v (Chosen [])))
  unwrap_fails_back = plain.unwrap_fails_back l typed t f x fis mine thread a (faithful p good) FitsHere (notes.spec_told p good f x fis t mine a entry args typed thread) FitsWrap (λ ty q at_ hid st h v fit s fixed. notes.mine_told p good f x fis t mine a entry args typed thread ty at_ hid st h v fit.names s)
      (notes.members_told p good f x fis t mine a entry args typed thread)

  pub wrap_back : (hid : ℕ → Bool) (ty line n : ℕ) (o : Formula) (r : Ref) (st : State) (h : Heap) (v : List Value) (struct : is_struct p ty ≡ true) (in_it : in_type (Pointer ty) (Refers r) ≡ true) (s : Steady p f h v) (q : ℕ) (fits : FitsWrap ty q) (e : Environment l t) → Has l t e o (Refers r) → MatchesHere hid e st h v → AllHold (Environment l t) (Holds l t) e (facts (p_.wrap_object p a ty q o st).path)
      → (h' : Heap) × (v' : List Value) × ActsTo p x f (wrap_object p (spot x [] line) ty r n (starting h v (Chosen []))) h' v' × MatchesHere hid e (p_.wrap_object p a ty q o st).gives h' v'
  wrap_back = plain.wrap_back l typed t f x fis mine thread a (faithful p good) FitsHere (notes.spec_told p good f x fis t mine a entry args typed thread) FitsWrap (λ ty q at_ hid st h v fit s fixed. notes.mine_told p good f x fis t mine a entry args typed thread ty at_ hid st h v fit.names s)
      (notes.members_told p good f x fis t mine a entry args typed thread)

  pub wrap_fails_back : (hid : ℕ → Bool) (ty line n : ℕ) (o : Formula) (r : Ref) (st : State) (h : Heap) (v : List Value) (struct : is_struct p ty ≡ true) (in_it : in_type (Pointer ty) (Refers r) ≡ true) (s : Steady p f h v) (q : ℕ) (fits : FitsWrap ty q) (label : ℕ) (e : Environment l t) → Has l t e o (Refers r) → MatchesHere hid e st h v
      → FailsIn (Environment l t) (Holds l t) label n (p_.wrap_object p a ty q o st).path e → FailsAt label (wrap_object p (spot x [] line) ty r n (starting h v (Chosen [])))
  wrap_fails_back = plain.wrap_fails_back l typed t f x fis mine thread a (faithful p good) FitsHere (notes.spec_told p good f x fis t mine a entry args typed thread) FitsWrap (λ ty q at_ hid st h v fit s fixed. notes.mine_told p good f x fis t mine a entry args typed thread ty at_ hid st h v fit.names s)
      (notes.members_told p good f x fis t mine a entry args typed thread)
