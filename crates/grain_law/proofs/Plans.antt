-- An item's plan comes to what the machine's turn comes to.
use Rattle.std.proofs.Common.{◌≡◌, ℕ, ◌+◌, Bool, true, false, List, [], ◌∷◌, Option, None, Some, refl, sym, ap, ◌∙◌}
use Rattle.std.specs.Prelude.{map, pos, slice_get}
use Rattle.object_types.specs.declared.references.Ref.{Ref}
use Rattle.object_types.specs.declared.values.Value.{Value}
use Rattle.object_types.specs.declared.values.Value.TheVariants.{Int}
use Rattle.method.specs.declared.program.CheckKind.TheVariants.{LoopInv}
use Rattle.method.specs.declared.program.Expr.{Expr}
use Rattle.method.specs.declared.program.Target.{Target}
use Rattle.method.specs.declared.program.Target.TheVariants.{Local, FieldOf}
use Rattle.method.specs.declared.program.RightSide.{RightSide}
use Rattle.method.specs.declared.program.RightSide.TheVariants.{Compute, Malloc, NewClaim, Interlocked}
use Rattle.method.specs.declared.program.Simple.{Simple}
use Rattle.method.specs.declared.program.Simple.TheVariants.{Assign, ChangeOwned, EndClaim}
use Rattle.method.specs.declared.program.Action.{Action}
use Rattle.method.specs.declared.program.Action.TheVariants.{Simply, Declare, Define, WrapObject, UnwrapObject, AssertSpec, FreeObject, SpawnThread, Atomic}
use Rattle.method.specs.declared.program.Claimed.{Claimed}
use Rattle.method.specs.declared.program.Claimed.TheVariants.{ClaimedVariable, ClaimedNull, ClaimedOther}
use Rattle.method.specs.declared.program.ClaimSite.{ClaimSite}
use Rattle.method.specs.declared.program.Receiver.{Receiver}
use Rattle.method.specs.declared.program.Receiver.TheVariants.{Nobody, NewVariable, Place as Left}
use Rattle.method.specs.declared.program.Stmt.TheVariants.{Do, If', While', DoWhile', Unwrapping', Call, Return}
use Rattle.method.specs.declared.program.Program.{Program}
use Rattle.object_types.specs.References.{null}
use Rattle.object_types.specs.Values.{referent}
use Rattle.object_types.specs.Heap.{Heap}
use Rattle.method.specs.Overflow.{Overflow}
use Rattle.method.specs.Tables.{local}
use Rattle.method.specs.Expressions.{End, Misfit, Failed, Gave, Outcome, Unfit, Gives, after, goes_on, Context, Spot, checks, all_checks, eval, eval_all, check_specs, scene, spec_test}
use Rattle.method.specs.Actions.{Place, InLocal, InField, Supply, Progress, Valued, no_tally, target_checks, right_checks, run_claimed, right_side, run_simple, run_action, make_claim, left_side, store, owned_change, end_claim, wrap_object, unwrap_object, free, spawn, listed_exprs, fitting, action_fits, no_choices, spot, starting, act}
use Rattle.method.specs.Machine.{Remaining, Run, Test, WrapAgain, Receive, Activation, Turn, turn_of, received, value_of, action_turn}
use Rattle.grain_law.specs.FieldReads.{eval_with}
use Rattle.grain_law.specs.Plans.{Plan, Rest, Work, work_all, left_plan, objects_plan, Effect, site_plan, right_plan, simple_plan, action_plan, claim_rest, Finish, receiver_plan, value_plan, turn_plan, block_rest, item_line, item_fits, item_invariants}
use Rattle.grain_law.specs.FineSteps.{work}
use Rattle.grain_law.proofs.Traces.{Traces, then_traces, eval_traces}

abbrev pub bind : {A B : Type 0} → End A → (A → End B) → End B
bind Misfit f = Misfit
bind (Failed n kind line) f = Failed n kind line
bind (Gave a) f = f a

goes_on_bind : {A B : Type 0} (w : Option Overflow) (e : End A) (f : A → Outcome B) → (goes_on w e f).end ≡ bind e (λ a. (f a).end)
goes_on_bind w Misfit f = refl
goes_on_bind w (Failed n kind line) f = refl
goes_on_bind w (Gave a) f = refl

pub after_bind : {A B : Type 0} (o : Outcome A) (f : A → Outcome B) → (after o f).end ≡ bind o.end (λ a. (f a).end)
after_bind o f = goes_on_bind o.overflow o.end f

bind_bind : {A B C : Type 0} (e : End A) (f : A → End B) (g : B → End C) → bind (bind e f) g ≡ bind e (λ a. bind (f a) g)
bind_bind Misfit f g = refl
bind_bind (Failed n kind line) f g = refl
bind_bind (Gave a) f g = refl

-- one after the other, in either grouping
pub regroup : {A B C : Type 0} (o : Outcome A) (f : A → Outcome B) (c : B → Outcome C) → (after (after o f) c).end ≡ (after o (λ a. after (f a) c)).end
regroup o f c =
    after_bind (after o f) c ∙ ap (λ e. bind e (λ b. (c b).end)) (after_bind o f) ∙ bind_bind o.end (λ a. (f a).end) (λ b. (c b).end) ∙ (λ i. bind o.end (λ a. sym (after_bind (f a) c) i)) ∙ sym (after_bind o (λ a. after (f a) c))

-- The plan's expressions are works_here out in turn, and where all are, what is left comes to the end.
pub record GoesAt (p : Program) (bare : Spot) (h : Heap) (l : List Value) {A C : Type 0} (does : A → End C) (plan : Plan A) (e : End C) : Type 0 where
  pub at_once : Outcome A
  pub traces : Traces bare.line (work p bare h l plan) at_once.end
  pub is : e ≡ bind at_once.end does

module _ (p : Program) (y : Context) (choices : List Value) (line : ℕ) (h : Heap) (l : List Value) where
  abbrev bare : Spot
  bare = spot y [] line

  abbrev at_ : Spot
  at_ = spot y choices line

  abbrev Goes : {A C : Type 0} → (A → End C) → Plan A → End C → Type 0
  Goes does plan e = GoesAt p bare h l does plan e

  goes_rest : {A C : Type 0} (does : A → End C) (a : A) → Goes does (Rest a) (does a)
  goes_rest does a = record { at_once = Gives a; traces = ([], λ us. refl); is = refl }

  goes_same : {A C : Type 0} (does : A → End C) (plan : Plan A) (d e : End C) → d ≡ e → Goes does plan e → Goes does plan d
  goes_same does plan d e s x = record { at_once = x.at_once; traces = x.traces; is = s ∙ x.is }

  goes_work : {A C : Type 0} (does : A → End C) (e : Expr) (n : ℕ) (k : Value → Plan A) (c : Value → Outcome C) → ((v : Value) → Goes does (k v) (c v).end) → Goes does (Work e k) (after (eval p at_ h l e n) c).end
  goes_work does e n k c x = record {
    at_once = after (eval p at_ h l e n) (λ v. (x v).at_once);
    traces = then_traces line (eval_with p bare h l e) (λ v vs. work p bare h l (k v) vs) (eval p at_ h l e n) (λ v. (x v).at_once) (eval_traces p y [] choices line h l e n) (λ v. (x v).traces);
    is = after_bind (eval p at_ h l e n) c ∙ (λ i. bind (eval p at_ h l e n).end (λ v. (x v).is i)) ∙ sym (bind_bind (eval p at_ h l e n).end (λ v. (x v).at_once.end) does) ∙ ap (λ z. bind z does) (sym (after_bind (eval p at_ h l e n) (λ v. (x v).at_once)));
  }

  goes_all : {A C : Type 0} (does : A → End C) (es : List Expr) (n : ℕ) (k : List Value → Plan A) (c : List Value → Outcome C) → ((vs : List Value) → Goes does (k vs) (c vs).end) → Goes does (work_all es k) (after (eval_all p at_ h l es n) c).end
  goes_all does [] n k c x = x []
  goes_all does (e ∷ es) n k c x =
      goes_same does (work_all (e ∷ es) k) _ _ (regroup (eval p at_ h l e n) (λ v. after (eval_all p at_ h l es (n + checks e)) (λ vs. Gives (v ∷ vs))) c)
      (goes_work does e n (λ v. work_all es (λ vs. k (v ∷ vs))) (λ v. after (after (eval_all p at_ h l es (n + checks e)) (λ vs. Gives (v ∷ vs))) c) (λ v.
      goes_same does (work_all es (λ vs. k (v ∷ vs))) _ _ (regroup (eval_all p at_ h l es (n + checks e)) (λ vs. Gives (v ∷ vs)) c)
      (goes_all does es (n + checks e) (λ vs. k (v ∷ vs)) (λ vs. after (Gives (v ∷ vs)) c) (λ vs. x (v ∷ vs)))
      ))

  module _ (supply : Supply) where
    abbrev at_start : Progress
    at_start = starting h l supply

    goes_left : {A C : Type 0} (does : A → End C) (t : Target) (n : ℕ) (k : Place → Plan A) (c : Place → Outcome C) → ((place : Place) → Goes does (k place) (c place).end) → Goes does (left_plan t k) (after (left_side p at_ t n at_start) c).end
    goes_left does (Local i) n k c x = x (InLocal i)
    goes_left does (FieldOf e f) n k c x =
        goes_same does (left_plan (FieldOf e f) k) _ _ (regroup (eval p at_ h l e n) (λ v. Gives (InField (referent v) f)) c)
        (goes_work does e n (λ v. k (InField (referent v) f)) (λ v. after (Gives (InField (referent v) f)) c) (λ v. x (InField (referent v) f)))

    goes_claimed : {A C : Type 0} (does : A → End C) (cs : List Claimed) (n : ℕ) (k : List Ref → Plan A) (c : List Ref → Outcome C) → ((os : List Ref) → Goes does (k os) (c os).end) → Goes does (objects_plan l cs k) (after (run_claimed p at_ cs n at_start) c).end
    goes_claimed does [] n k c x = x []
    goes_claimed does (ClaimedVariable i ∷ cs) n k c x =
        goes_same does (objects_plan l (ClaimedVariable i ∷ cs) k) _ _ (regroup (run_claimed p at_ cs n at_start) (λ os. Gives (referent (local l i) ∷ os)) c)
        (goes_claimed does cs n (λ os. k (referent (local l i) ∷ os)) (λ os. after (Gives (referent (local l i) ∷ os)) c) (λ os. x (referent (local l i) ∷ os)))
    goes_claimed does (ClaimedNull ∷ cs) n k c x =
        goes_same does (objects_plan l (ClaimedNull ∷ cs) k) _ _ (regroup (run_claimed p at_ cs n at_start) (λ os. Gives (null ∷ os)) c)
        (goes_claimed does cs n (λ os. k (null ∷ os)) (λ os. after (Gives (null ∷ os)) c) (λ os. x (null ∷ os)))
    goes_claimed does (ClaimedOther e ty ∷ cs) n k c x =
        goes_same does (objects_plan l (ClaimedOther e ty ∷ cs) k) _ _ (regroup (eval p at_ h l e n) (λ v. after (run_claimed p at_ cs (n + checks e) at_start) (λ os. Gives (referent v ∷ os))) c)
        (goes_work does e n (λ v. objects_plan l cs (λ os. k (referent v ∷ os))) (λ v. after (after (run_claimed p at_ cs (n + checks e) at_start) (λ os. Gives (referent v ∷ os))) c) (λ v.
        goes_same does (objects_plan l cs (λ os. k (referent v ∷ os))) _ _ (regroup (run_claimed p at_ cs (n + checks e) at_start) (λ os. Gives (referent v ∷ os)) c)
        (goes_claimed does cs (n + checks e) (λ os. k (referent v ∷ os)) (λ os. after (Gives (referent v ∷ os)) c) (λ os. x (referent v ∷ os)))
        ))

    goes_site :
        {A C : Type 0} (does : A → End C) (s : Option ClaimSite) (place : Place) (n : ℕ) (k : Effect Valued → Plan A) (c : Valued → Outcome C) → ((effect : Effect Valued) → Goes does (k effect) (after (effect at_ at_start) c).end) →
        Goes does (site_plan p l s place n k) (after (make_claim p at_ s place n no_tally at_start) c).end
    goes_site does None place n k c x = x _
    goes_site does (Some site) place n k c x =
        goes_same does (site_plan p l (Some site) place n k) _ _ (regroup (run_claimed p at_ site.claimed.items n at_start) (λ objects. claim_rest p site objects place n at_ at_start) c)
        (goes_claimed does site.claimed.items n (λ objects. k (claim_rest p site objects place n)) (λ objects. after (claim_rest p site objects place n at_ at_start) c) (λ objects. x (claim_rest p site objects place n)))

    goes_right :
        {A C : Type 0} (does : A → End C) (r : RightSide) (place : Place) (n : ℕ) (k : Effect Valued → Plan A) (c : Valued → Outcome C) → ((effect : Effect Valued) → Goes does (k effect) (after (effect at_ at_start) c).end) →
        Goes does (right_plan p l r place n k) (after (right_side p at_ r place n no_tally at_start) c).end
    goes_right does (Compute e) place n k c x =
        goes_same does (right_plan p l (Compute e) place n k) _ _ (regroup (eval p at_ h l e n) (λ v. Gives (record { value = v; starting = at_start })) c)
        (goes_work does e n (λ v. k (λ at_ g. Gives (record { value = v; starting = g }))) (λ v. after (Gives (record { value = v; starting = at_start })) c) (λ v. x (λ at_ g. Gives (record { value = v; starting = g }))))
    goes_right does (Malloc ty) place n k c x = x _
    goes_right does (NewClaim s) place n k c x = goes_site does (slice_get p.sites.items s) place n k c x
    goes_right does (Interlocked e f op then') place n k c x = x _

    goes_simple :
        {A C : Type 0} (does : A → End C) (s : Simple) (k : Effect Progress → Plan A) (c : Progress → Outcome C) → ((effect : Effect Progress) → Goes does (k effect) (after (effect at_ at_start) c).end) →
        Goes does (simple_plan p l s k) (after (run_simple p at_ s 0 no_tally at_start) c).end
    goes_simple does (Assign t r) k c x =
        let stores : Place → Valued → Outcome Progress = λ place v. store p at_ place v.value (0 + target_checks t + right_checks p false r) v.starting in
        goes_same does _ _ _ (regroup (left_side p at_ t 0 at_start) (λ place. after (right_side p at_ r place (0 + target_checks t) no_tally at_start) (stores place)) c)
        (goes_left does t 0 _ (λ place. after (after (right_side p at_ r place (0 + target_checks t) no_tally at_start) (stores place)) c) (λ place.
        goes_same does _ _ _ (regroup (right_side p at_ r place (0 + target_checks t) no_tally at_start) (stores place) c)
        (goes_right does r place (0 + target_checks t) _ (λ v. after (stores place v) c) (λ right.
        goes_same does _ _ _ (sym (regroup (right at_ at_start) (stores place) c)) (x (λ at_ g. after (right at_ g) (λ v. store p at_ place v.value (0 + target_checks t + right_checks p at_.inside r) v.starting)))
        ))
        ))
    goes_simple does (ChangeOwned d e es) k c x =
        let ends : Value → List Value → Outcome Progress = λ o vs. owned_change p at_ d (referent o) vs (0 + checks e + all_checks es.items) at_start in
        goes_same does _ _ _ (regroup (eval p at_ h l e 0) (λ o. after (eval_all p at_ h l es.items (0 + checks e)) (ends o)) c)
        (goes_work does e 0 _ (λ o. after (after (eval_all p at_ h l es.items (0 + checks e)) (ends o)) c) (λ o.
        goes_same does _ _ _ (regroup (eval_all p at_ h l es.items (0 + checks e)) (ends o) c)
        (goes_all does es.items (0 + checks e) _ (λ vs. after (ends o vs) c) (λ vs. x (λ at_ g. owned_change p at_ d (referent o) vs (0 + checks e + all_checks es.items) g)))
        ))
    goes_simple does (EndClaim q e es) k c x =
        let ends : Value → List Value → Outcome Progress = λ o vs. end_claim p at_ (referent o) (map referent vs) (0 + checks e + all_checks es.items) no_tally at_start in
        goes_same does _ _ _ (regroup (eval p at_ h l e 0) (λ o. after (eval_all p at_ h l es.items (0 + checks e)) (ends o)) c)
        (goes_work does e 0 _ (λ o. after (after (eval_all p at_ h l es.items (0 + checks e)) (ends o)) c) (λ o.
        goes_same does _ _ _ (regroup (eval_all p at_ h l es.items (0 + checks e)) (ends o) c)
        (goes_all does es.items (0 + checks e) _ (λ vs. after (ends o vs) c) (λ vs. x (λ at_ g. end_claim p at_ (referent o) (map referent vs) (0 + checks e + all_checks es.items) no_tally g)))
        ))

    goes_action :
        {A C : Type 0} (does : A → End C) (s : Action) (k : Effect Progress → Plan A) (c : Progress → Outcome C) → ((effect : Effect Progress) → Goes does (k effect) (after (effect at_ at_start) c).end) →
        Goes does (action_plan p l s k) (after (run_action p at_ s 0 at_start) c).end
    goes_action does (Simply s) k c x = goes_simple does s k c x
    goes_action does (Declare i) k c x = x _
    goes_action does (Define i r) k c x =
        let stores : Valued → Outcome Progress = λ v. store p at_ (InLocal i) v.value (0 + right_checks p false r) v.starting in
        goes_same does _ _ _ (regroup (right_side p at_ r (InLocal i) 0 no_tally at_start) stores c)
        (goes_right does r (InLocal i) 0 _ (λ v. after (stores v) c) (λ right.
        goes_same does _ _ _ (sym (regroup (right at_ at_start) stores c)) (x (λ at_ g. after (right at_ g) (λ v. store p at_ (InLocal i) v.value (0 + right_checks p false r) v.starting)))
        ))
    goes_action does (WrapObject ty q e) k c x = goes_same does _ _ _ (regroup (eval p at_ h l e 0) (λ v. wrap_object p at_ ty (referent v) (0 + checks e) at_start) c) (goes_work does e 0 _ _ (λ v. x (λ at_ g. wrap_object p at_ ty (referent v) (0 + checks e) g)))
    goes_action does (UnwrapObject e) k c x = goes_same does _ _ _ (regroup (eval p at_ h l e 0) (λ v. unwrap_object p at_ (referent v) (0 + checks e) at_start) c) (goes_work does e 0 _ _ (λ v. x (λ at_ g. unwrap_object p at_ (referent v) (0 + checks e) g)))
    goes_action does (AssertSpec e) k c x = x _
    goes_action does (FreeObject e) k c x = goes_same does _ _ _ (regroup (eval p at_ h l e 0) (λ v. free p at_ (referent v) (0 + checks e) at_start) c) (goes_work does e 0 _ _ (λ v. x (λ at_ g. free p at_ (referent v) (0 + checks e) g)))
    goes_action does (SpawnThread f es) k c x =
        goes_same does _ _ _ (regroup (eval_all p at_ h l es.items 0) (λ args. spawn p at_ f (slice_get p.functions.items f) args (0 + all_checks es.items) at_start) c)
        (goes_all does es.items 0 _ _ (λ args. x (λ at_ g. spawn p at_ f (slice_get p.functions.items f) args (0 + all_checks es.items) g)))
    goes_action does (Atomic ls body) k c x =
        goes_same does _ _ _ (regroup (eval_all p at_ h l (listed_exprs ls.items) 0) (λ vs. block_rest p ls.items body.items vs at_ at_start) c)
        (goes_all does (listed_exprs ls.items) 0 _ _ (λ vs. x (block_rest p ls.items body.items vs)))

    goes_receiver :
        {A C : Type 0} (does : A → End C) (to : Receiver) (k : Option Place → Plan A) (c : Option Place → Outcome C) → ((place : Option Place) → Goes does (k place) (c place).end) →
        Goes does (receiver_plan to k) (after (received p to at_ 0 at_start) c).end
    goes_receiver does Nobody k c x = x None
    goes_receiver does (NewVariable i) k c x = x (Some (InLocal i))
    goes_receiver does (Left t) k c x =
        goes_same does _ _ _ (regroup (left_side p at_ t 0 at_start) (λ place. Gives (Some place)) c) (goes_left does t 0 _ (λ place. after (Gives (Some place)) c) (λ place. x (Some place)))

  goes_value : {A C : Type 0} (does : A → End C) (e : Option Expr) (k : Value → Plan A) (c : Value → Outcome C) → ((v : Value) → Goes does (k v) (c v).end) → Goes does (value_plan e k) (after (value_of p at_ e h l 0) c).end
  goes_value does None k c x = x (Int (pos 0))
  goes_value does (Some e) k c x = goes_work does e 0 k c x

pub act_end : (p : Program) (x : Context) (choices : List Value) (supply : Supply) (line : ℕ) (s : Action) (h : Heap) (l : List Value) → action_fits p x.function s choices ≡ true → act p x choices supply line s 0 h l ≡ run_action p (spot x choices line) s 0 (starting h l supply)
unfolding act
act_end p x choices supply line s h l fits = ap (λ b. fitting b (run_action p (spot x choices line) s 0 (starting h l supply))) fits

act_waits : (p : Program) (x : Context) (choices : List Value) (supply : Supply) (line : ℕ) (s : Action) (h : Heap) (l : List Value) → action_fits p x.function s choices ≡ false → act p x choices supply line s 0 h l ≡ Unfit
unfolding act
act_waits p x choices supply line s h l none = ap (λ b. fitting b (run_action p (spot x choices line) s 0 (starting h l supply))) none

-- The turn of an item whose choices fit: its invariants, and then its plan.
pub record ItemGoes (p : Program) (a : Activation) (supply : Supply) (choices : List Value) (h : Heap) (code : List Remaining) (below : List Activation) : Type 0 where
  pub rest : Outcome Turn
  pub is : (turn_of p supply choices a code below h).end ≡ (check_specs (spot a.context [] (item_line p a code)) (map (λ e. spec_test p e (scene a.context h a.locals)) (item_invariants p a code)) 0 LoopInv rest).end
  pub goes : GoesAt p (spot a.context [] (item_line p a code)) h a.locals (λ finish. (finish supply choices h).end) (turn_plan p a code below) rest.end

module _ (p : Program) (a : Activation) (supply : Supply) (choices : List Value) (h : Heap) where
  does : Finish → End Turn
  does finish = (finish supply choices h).end

  fits_end : (b : Bool) (o : Outcome Turn) → b ≡ true → (fitting b o).end ≡ o.end
  fits_end b o e = ap (λ b. (fitting b o).end) e

  unfit : (b : Bool) (o : Outcome Turn) → b ≡ false → (fitting b o).end ≡ Misfit
  unfit b o e = ap (λ b. (fitting b o).end) e

  pub item_goes : (code : List Remaining) (below : List Activation) → item_fits p a code choices ≡ true → ItemGoes p a supply choices h code below
  item_goes [] below fits = record { rest = record { overflow = None; end = _ }; is = fits_end (no_choices choices) _ fits; goes = goes_rest p a.context [] (item_line p a []) h a.locals _ _ }
  item_goes (Run (Do line x) ∷ code) below fits = record {
    rest = record { overflow = None; end = _ };
    is = ap (λ o. (action_turn p line a code below o).end) (act_end p a.context choices supply line x h a.locals fits);
    goes = goes_action p a.context choices line h a.locals supply _ x _ _ (λ effect. goes_rest p a.context [] line h a.locals _ _);
  }
  item_goes (Run (If' line in_ghost e m then_row n else_row) ∷ code) below fits = record { rest = record { overflow = None; end = _ }; is = fits_end (no_choices choices) _ fits; goes = goes_work p a.context [] line h a.locals _ e 0 _ _ (λ v. goes_rest p a.context [] line h a.locals _ _) }
  item_goes (Run (While' line invs e m row) ∷ code) below fits = record { rest = _; is = fits_end (no_choices choices) _ fits; goes = goes_work p a.context [] line h a.locals _ e 0 _ _ (λ v. goes_rest p a.context [] line h a.locals _ _) }
  item_goes (Run (DoWhile' line invs m row tested e) ∷ code) below fits = record { rest = _; is = fits_end (no_choices choices) _ fits; goes = goes_rest p a.context [] line h a.locals _ _ }
  item_goes (Run (Unwrapping' line ty q e m row) ∷ code) below fits = record { rest = record { overflow = None; end = _ }; is = fits_end (no_choices choices) _ fits; goes = goes_work p a.context [] line h a.locals _ e 0 _ _ (λ v. goes_rest p a.context [] line h a.locals _ _) }
  item_goes (Run (Call line to c k es) ∷ code) below fits = record {
    rest = record { overflow = None; end = _ };
    is = fits_end (no_choices choices) _ fits;
    goes = goes_receiver p a.context [] line h a.locals supply _ to _ _ (λ place. goes_all p a.context [] line h a.locals _ es.items 0 _ _ (λ args. goes_rest p a.context [] line h a.locals _ _));
  }
  item_goes (Run (Return line e) ∷ code) below fits = record { rest = record { overflow = None; end = _ }; is = fits_end (no_choices choices) _ fits; goes = goes_value p a.context [] line h a.locals _ e _ _ (λ v. goes_rest p a.context [] line h a.locals _ _) }
  item_goes (Test line e s ∷ code) below fits = record { rest = record { overflow = None; end = _ }; is = fits_end (no_choices choices) _ fits; goes = goes_work p a.context [] line h a.locals _ e 0 _ _ (λ v. goes_rest p a.context [] line h a.locals _ _) }
  item_goes (WrapAgain line ty o ∷ code) below fits = record { rest = record { overflow = None; end = _ }; is = fits_end (no_choices choices) _ fits; goes = goes_rest p a.context [] line h a.locals _ _ }
  item_goes (Receive line place c ∷ code) below fits = record { rest = record { overflow = None; end = _ }; is = refl; goes = goes_rest p a.context [] line h a.locals _ _ }

  -- where the choices don't fit, it isn't enabled
  pub item_waits : (code : List Remaining) (below : List Activation) → item_fits p a code choices ≡ false → (turn_of p supply choices a code below h).end ≡ Misfit
  item_waits [] below none = unfit (no_choices choices) _ none
  item_waits (Run (Do line x) ∷ code) below none = ap (λ o. (action_turn p line a code below o).end) (act_waits p a.context choices supply line x h a.locals none)
  item_waits (Run (If' line in_ghost e m then_row n else_row) ∷ code) below none = unfit (no_choices choices) _ none
  item_waits (Run (While' line invs e m row) ∷ code) below none = unfit (no_choices choices) _ none
  item_waits (Run (DoWhile' line invs m row tested e) ∷ code) below none = unfit (no_choices choices) _ none
  item_waits (Run (Unwrapping' line ty q e m row) ∷ code) below none = unfit (no_choices choices) _ none
  item_waits (Run (Call line to c k es) ∷ code) below none = unfit (no_choices choices) _ none
  item_waits (Run (Return line e) ∷ code) below none = unfit (no_choices choices) _ none
  item_waits (Test line e s ∷ code) below none = unfit (no_choices choices) _ none
  item_waits (WrapAgain line ty o ∷ code) below none = unfit (no_choices choices) _ none
  item_waits (Receive line place c ∷ code) below none = refl
