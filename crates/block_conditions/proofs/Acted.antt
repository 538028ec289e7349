-- An action beside its path, as the induction on runs asks for it.
use Rattle.std.proofs.Common.{◌≡◌, ℕ, ◌==◌, Bool, true, false, not, ◌&&◌, ◌||◌, List, [], ◌∷◌, ◌+◌, Some, slice_get, length, refl, ap, sym, ◌∙◌, subst}
use Rattle.action_conditions.proofs.Stores.{on_gave}
use Rattle.std.proofs.lemmas.Bool.{eqb-true}
use Rattle.object_types.specs.declared.references.Ref.{Ref}
use Rattle.object_types.specs.declared.values.Value.{Value}
use Rattle.object_types.specs.References.{is_thread}
use Rattle.object_types.specs.Heap.{Heap}
use Rattle.method.specs.declared.program.Action.{Action}
use Rattle.method.specs.declared.program.FunctionInfo.{FunctionInfo}
use Rattle.method.specs.declared.program.Program.{Program}
use Rattle.method.specs.Tables.{local}
use Rattle.method.specs.Typing.{WellTyped, action_ok}
use Rattle.method.specs.Expressions as m
use Rattle.method.specs.Expressions.{Context, Spot as MachineSpot, Outcome, End, Gave}
use Rattle.method.specs.declared.program.Stmt.TheVariants.{Do}
use Rattle.conditions.specs.Statements.{action_declares}
use Rattle.conditions.specs.Actions.{is_of}
use Rattle.conditions.proofs.Hiding.{after_stmt}
use Rattle.method.specs.LocalRuns.{FailsAt, ActsTo}
use Rattle.method.specs.Actions as M
use Rattle.method.specs.Actions.{Progress, Chosen, spot, starting, act, action_fits, fitting}
use Rattle.machine_laws.proofs.Typed.{Env}
use Rattle.machine_laws.proofs.Acts.{Event, act_gave}
use Rattle.conditions.specs.Paths.{Execution}
use Rattle.conditions.specs.Code.{Spot, State}
use Rattle.conditions.proofs.FromRuns.{Values, count_of}
use Rattle.condition_meaning.specs.Languages.{language_of}
use Rattle.condition_meaning.proofs.Environments.{Environment, HeapIs}
use Rattle.condition_meaning.proofs.Walks.{Shown, Matches, Follows, Breaks}
use Rattle.conditions.specs.Symbolic.{Symbolic}
use Rattle.action_conditions.proofs.Places.{SpotIs, ShownAt}
use Rattle.action_conditions.proofs.Variables.{typed_many}
use Rattle.block_conditions.proofs.Beside.{Beside}
use Rattle.block_conditions.proofs.Operands.{At}

module _ (p : Program) (typed : WellTyped p) (f : FunctionInfo) (x : Context) (fis : slice_get p.functions.items x.function ≡ Some f) (thread : is_thread x.me ≡ true) (a : Spot) where
  abbrev E : Type 0
  E = Environment (language_of p) x.me

  -- what stays the same in the function, outside blocks
  abbrev pub Spotted : E → Type 0
  Spotted = SpotIs (language_of p) x.me a x false []

  -- how many variables the function has
  abbrev pub size : ℕ
  size = length f.variables.items

  to_shown : (hid : ℕ → Bool) (e : E) (i : ℕ) (ws : List Symbolic) (v : Values) → ShownAt (language_of p) x.me hid e i ws v → Shown (language_of p) x.me size Spotted hid e i ws v
  to_shown hid e i [] v s = tt
  to_shown hid e i (w ∷ ws) v s = (s.0, to_shown hid e (i + 1) ws v s.1)

  from_shown : (hid : ℕ → Bool) (e : E) (i : ℕ) (ws : List Symbolic) (v : Values) → Shown (language_of p) x.me size Spotted hid e i ws v → ShownAt (language_of p) x.me hid e i ws v
  from_shown hid e i [] v s = tt
  from_shown hid e i (w ∷ ws) v s = (s.0, from_shown hid e (i + 1) ws v s.1)

  module _ (line n : ℕ) (c : Action) (choices : List Value) (news : List Ref) (st : State) (h : Heap) (l : List Value) (env : Env p f h l) (ok : action_ok p f x.function c ≡ true) (hid hid' : ℕ → Bool) (t : Execution State)
      (beside : action_fits p x.function c choices ≡ true → Beside (language_of p) x.me n (count_of st) (count_of t.gives) t (M.run_action p (spot x choices line) c n (starting h l (Chosen news))) (λ e. At p f (spot x choices line) a hid st (starting h l (Chosen news)) e) (λ g' e. At p f (spot x choices line) a hid' t.gives g' e))
    where
      abbrev run : Outcome Progress
      run = M.run_action p (spot x choices line) c n (starting h l (Chosen news))

      fitted : (b : Bool) → action_fits p x.function c choices ≡ b → (g : Progress) → (fitting b run).end ≡ Gave g → (action_fits p x.function c choices ≡ true) × (run.end ≡ Gave g)
      fitted true is g e = (is, e)
      fitted false is g e = absurd (cc)

      fitted_fails : (b : Bool) → action_fits p x.function c choices ≡ b → (label : ℕ) → FailsAt label (fitting b run) → (action_fits p x.function c choices ≡ true) × FailsAt label run
      fitted_fails true is label e = (is, e)
      fitted_fails false is label e = absurd (let z : m.Misfit ≡ m.Failed label e.0 e.1 = e.2 in cc)

      before : (e : E) → Matches (language_of p) x.me size Spotted hid e st h (local l) → At p f (spot x choices line) a hid st (starting h l (Chosen news)) e
      before e y = record { spot = y.spot; many = y.many ∙ sym (typed_many f.variables.items l env.locals); heap = y.heap; locals = from_shown hid e 0 st.locals (local l) y.locals }

      pub acted_follows : (h' : Heap) (l' : List Value) → ActsTo p x f (act p x choices (Chosen news) line c n h l) h' l' → Follows (language_of p) x.me size Spotted hid hid' st t h (local l) h' (local l')
      unfolding act
      acted_follows h' l' r =
          let g = r.0 in
          let fit = fitted (action_fits p x.function c choices) refl g r.1 in
          let event = on_gave (act p x choices (Chosen news) line c n h l) (Event p f x (Chosen news) (starting h l (Chosen news))) g (act_gave p typed f x fis thread choices (Chosen news) line c n h l env ok) r.1 in
          let q = (beside fit.0).goes g fit.1 in
          record {
            extension = q.extension;
            goes = λ e so y.
                let z = q.passes e so (before e y) in (
                  z.0,
                  record {
                    spot = z.1.spot;
                    many = z.1.many ∙ typed_many f.variables.items g.locals event.ready.locals;
                    heap = subst (λ (k : Heap). HeapIs (language_of p) x.me e t.gives.heap k) r.2 z.1.heap;
                    locals = subst (λ (k : List Value). Shown (language_of p) x.me size Spotted hid' e 0 t.gives.locals (local k)) r.3 (to_shown hid' e 0 t.gives.locals (local g.locals) z.1.locals);
                  },
                );
          }

      pub acted_breaks : (label : ℕ) → FailsAt label (act p x choices (Chosen news) line c n h l) → Breaks (language_of p) x.me size Spotted label n hid st t h (local l)
      unfolding act
      acted_breaks label r =
          let fit = fitted_fails (action_fits p x.function c choices) refl label r in
          let q = (beside fit.0).fails label fit.1 in
          record { extension = q.extension; fails = λ e so y. q.breaks e so (before e y) }

-- what is hidden behind an action that declares no variable
pub still_hid : (hid : ℕ → Bool) (line : ℕ) (c : Action) → action_declares c ≡ [] → (i : ℕ) → after_stmt (Do line c) hid i ≡ false → hid i ≡ false
still_hid hid line c none i h = by (hid i) (sym (ap (λ ds. hid i && not (is_of ds i)) none) ∙ h)
  where
    by : (b : Bool) → b && true ≡ false → b ≡ false
    by true e = absurd (cc)
    by false e = refl

-- behind one that declares variable i, the others
pub still_hid_other : (hid : ℕ → Bool) (line : ℕ) (c : Action) (i : ℕ) → action_declares c ≡ i ∷ [] → (j : ℕ) → (j ≡ i → ⊥) → after_stmt (Do line c) hid j ≡ false → hid j ≡ false
still_hid_other hid line c i one j apart h = by (hid j) (i == j) refl (sym (ap (λ ds. hid j && not (is_of ds j)) one) ∙ h)
  where
    by : (b c : Bool) → i == j ≡ c → b && not (c || false) ≡ false → b ≡ false
    by b true same e = absurd (apart (sym (eqb-true i j same)))
    by true false same e = absurd (cc)
    by false false same e = refl

module _ (p : Program) (f : FunctionInfo) (at_ : MachineSpot) (a : Spot) (hid hid' : ℕ → Bool) (less : (i : ℕ) → hid' i ≡ false → hid i ≡ false) where
  shown_less : (e : Environment (language_of p) at_.context.me) (i : ℕ) (ws : List Symbolic) (v : Values) → ShownAt (language_of p) at_.context.me hid e i ws v → ShownAt (language_of p) at_.context.me hid' e i ws v
  shown_less e i [] v s = tt
  shown_less e i (w ∷ ws) v s = ((λ h. s.0 (less i h)), shown_less e (i + 1) ws v s.1)

  pub at_less : (st : State) (g : Progress) (e : Environment (language_of p) at_.context.me) → At p f at_ a hid st g e → At p f at_ a hid' st g e
  at_less st g e s = record { spot = s.spot; many = s.many; heap = s.heap; locals = shown_less e 0 st.locals (local g.locals) s.locals }
