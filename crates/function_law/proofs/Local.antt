-- Conditions mean local safety: no local run fails a check whose condition is valid. Given: what is said of atomic blocks, of claims and of what is started.
use Rattle.function_law.specs.Checks.{ValidAt, CheckIsValid}
use Rattle.std.proofs.Common.{◌≡◌, ℕ, suc, Bool, true, List, [], ◌∷◌, Some, slice_get, subst}
use Rattle.object_types.specs.declared.references.Ref.{Ref}
use Rattle.object_types.specs.declared.values.Value.{Value}
use Rattle.object_types.specs.References.{thread}
use Rattle.object_types.specs.Heap.{Heap}
use Rattle.method.specs.declared.program.Action.{Action}
use Rattle.method.specs.declared.program.Stmt.TheVariants.{Do}
use Rattle.method.specs.declared.program.FunctionInfo.{FunctionInfo}
use Rattle.method.specs.declared.program.Program.{Program}
use Rattle.method.specs.Tables.{local}
use Rattle.method.specs.Legal.{Good}
use Rattle.method.specs.Machine.{fit_parameters}
use Rattle.method.specs.Scopes.{Scoped}
use Rattle.method.specs.Typing.{WellTyped}
use Rattle.method.specs.Actions as act
use Rattle.method.specs.Actions.{Chosen}
use Rattle.method.specs.LocalRuns.{FailsAt, ActsTo, LazyOk, LocalOk}
use Rattle.quiet_law.proofs.LazyRuns.{lazy_runs_suffice}
use Rattle.terms.specs.Formula.{Formula}
use Rattle.term_meaning.specs.Meaning.{Language}
use Rattle.conditions.specs.Code.{State}
use Rattle.conditions.specs.Actions as walk
use Rattle.conditions.specs.Conditions.{function_conditions}
use Rattle.conditions.specs.Ways.{IsValidAt}
use Rattle.conditions.proofs.Hiding.{after_stmt}
use Rattle.condition_walks.proofs.TermSorts.{AllSorted}
use Rattle.condition_walks.proofs.Fitting.{FitsAction, ConversionsAreReceived, TextBody}
use Rattle.condition_meaning.specs.Languages.{language_of}
use Rattle.condition_meaning.specs.Annotated.{Annotated}
use Rattle.condition_meaning.specs.FunctionWords.{ContractFits}
use Rattle.condition_meaning.proofs.Environments.{Environment, Holds}
use Rattle.condition_meaning.proofs.Walks.{Follows, Breaks}
use Rattle.action_conditions.proofs.Steady.{Steady}
use Rattle.function_law.proofs.Texts.{SpecText, WrapText, ActionText}
use Rattle.function_law.proofs.TextTests.{OtherText, text_said}
use Rattle.function_law.proofs.Given as given
use Rattle.method.specs.Tables.{struct_of}
use Rattle.action_conditions.proofs.Annotations.{SetFits}

valid_here : (l : Language) (t : Ref) (label n : ℕ) (fs : List Formula) → ValidAt l label n fs → IsValidAt (Environment l t) (Holds l t) label n fs
valid_here l t label n [] v = tt
valid_here l t label n (f ∷ fs) v = (λ is d. record { always = λ x g. v.0 is d.env x d.is_env g }, valid_here l t label (suc n) fs v.1)

module _ (p : Program) (good : Annotated p) (typed : WellTyped p) (contracts : (n : ℕ) (g : FunctionInfo) → slice_get p.functions.items n ≡ Some g → ContractFits p g) where
  -- the actions of which this is said go along their paths, or break their checks there, in each activation of a function
  pub record ActionsGo (Other : Action → Type 0) (number : ℕ) (f : FunctionInfo) (fis : slice_get p.functions.items number ≡ Some f) (n : ℕ) (h0 : Heap) (args : List Value) (good0 : Good p h0) (fit : fit_parameters f args ≡ true) : Type 1 where
    pub follows : (hid : ℕ → Bool) (line m : ℕ) (c : Action) (choices : List Value) (news : List Ref) (st : State) (h h' : Heap) (v v' : List Value) → FitsAction p number f hid c → Other c → AllSorted f.variables.items st.locals → Steady p f h v → ActsTo p (given.x p good typed contracts number f fis n h0 args good0 fit) f (act.act p (given.x p good typed contracts number f fis n h0 args good0 fit) choices (Chosen news) line c m h v) h' v'
        → Follows (language_of p) (thread n) (given.size p good typed contracts number f fis n h0 args good0 fit) (given.Spotted p good typed contracts number f fis n h0 args good0 fit) hid (after_stmt (Do line c) hid) st (walk.run_action p (given.a p good typed contracts number f fis n h0 args good0 fit) f c st) h (local v) h' (local v')
    pub breaks : (label : ℕ) (hid : ℕ → Bool) (line m : ℕ) (c : Action) (choices : List Value) (news : List Ref) (st : State) (h : Heap) (v : List Value) → FitsAction p number f hid c → Other c → AllSorted f.variables.items st.locals → Steady p f h v → FailsAt label (act.act p (given.x p good typed contracts number f fis n h0 args good0 fit) choices (Chosen news) line c m h v)
        → Breaks (language_of p) (thread n) (given.size p good typed contracts number f fis n h0 args good0 fit) (given.Spotted p good typed contracts number f fis n h0 args good0 fit) label m hid st (walk.run_action p (given.a p good typed contracts number f fis n h0 args good0 fit) f c st) h (local v)

  module _ (scoped : Scoped p) (plain : ConversionsAreReceived p) (Other : ℕ → FunctionInfo → Action → Type 0)
      (others : (k : ℕ) (f : FunctionInfo) (fis : slice_get p.functions.items k ≡ Some f) (n : ℕ) (h0 : Heap) (args : List Value) (good0 : Good p h0) (fit : fit_parameters f args ≡ true) → ActionsGo (Other k f) k f fis n h0 args good0 fit)
    where
      -- what is said of a function's text
      abbrev pub FunctionText : ℕ → Type 0
      FunctionText k = (f : FunctionInfo) (fis : slice_get p.functions.items k ≡ Some f) → TextBody p k f (ActionText p good k f fis (Other k f)) (SpecText p good k f fis) (WrapText p f) f.body.items

      -- where the condition of a function's check is valid, no run of it in which others do nothing before quiet code fails the check
      pub lazy_ok : (k label : ℕ) → FunctionText k → CheckIsValid p k label → LazyOk p k label
      lazy_ok k label said valid f fis n h0 args good0 fit requires r =
          let o = others k f fis n h0 args good0 fit in
          given.local_ok p good typed contracts k f fis n h0 args good0 fit (Other k f) o.follows o.breaks scoped plain (said f fis) label
          (valid_here (language_of p) (thread n) label 1 (function_conditions p (Some f)) (subst (λ g. ValidAt (language_of p) label 1 (function_conditions p g)) fis valid)) requires r

      -- and so no local run
      pub local_ok : (k label : ℕ) → FunctionText k → CheckIsValid p k label → LocalOk p k label
      local_ok k label said valid = (lazy_runs_suffice p k label).0 (lazy_ok k label said valid)

  -- the same of a program whose annotations pass the tests
  module _ (scoped : Scoped p) (plain : ConversionsAreReceived p) (sets : (ty : ℕ) → SetFits p (struct_of p ty))
      (others : (k : ℕ) (f : FunctionInfo) (fis : slice_get p.functions.items k ≡ Some f) (n : ℕ) (h0 : Heap) (args : List Value) (good0 : Good p h0) (fit : fit_parameters f args ≡ true) → ActionsGo (OtherText p k f) k f fis n h0 args good0 fit)
    where
      pub function_ok : (k label : ℕ) → CheckIsValid p k label → LocalOk p k label
      function_ok k label valid = local_ok scoped plain (OtherText p) others k label (λ f fis. text_said p f good sets k fis) valid
