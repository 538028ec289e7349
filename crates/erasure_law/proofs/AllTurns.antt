-- Where the machine's turn on a concrete item goes on, it is the plain machine's turn.
use Rattle.std.proofs.Common.{◌≡◌, ℕ, zero, suc, Bool, true, false, not, ◌&&◌, ◌||◌, List, [], ◌∷◌, map, Option, Some, slice_get, refl, sym, subst, arith}
use Rattle.std.specs.Prelude.{nat_le, if◌then◌else◌}
use Rattle.std.proofs.lemmas.Bool.{leb-true}
use Rattle.object_types.specs.declared.references.Ref.{Ref}
use Rattle.object_types.specs.declared.values.Value.{Value}
use Rattle.method.specs.declared.program.Inner.{Inner}
use Rattle.method.specs.declared.program.Listed.{Listed}
use Rattle.method.specs.declared.program.Action.{Action}
use Rattle.method.specs.declared.program.Action.TheVariants.{Simply, Declare, Define, WrapObject, UnwrapObject, AssertSpec, FreeObject, SpawnThread, Atomic}
use Rattle.method.specs.declared.program.Stmt.TheVariants.{Do, If', While', DoWhile', Unwrapping', Call, Return}
use Rattle.method.specs.declared.program.FunctionInfo.{FunctionInfo}
use Rattle.method.specs.declared.program.Program.{Program}
use Rattle.method.specs.declared.program.Target.{Target}
use Rattle.method.specs.declared.program.RightSide.{RightSide}
use Rattle.method.specs.declared.program.RightSide.TheVariants.{Compute, Malloc, NewClaim, Interlocked}
use Rattle.method.specs.declared.program.Simple.TheVariants.{Assign, ChangeOwned, EndClaim}
use Rattle.method.specs.declared.program.Inner.TheVariants.{Inside, InsideIf'}
use Rattle.method.specs.declared.program.DeclaredType.TheVariants.{Pointer}
use Rattle.method.specs.Tables.{is_struct}
use Rattle.method.specs.Expressions.{End, Misfit, Failed, Gave}
use Rattle.method.specs.Machine.{Turn}
use Rattle.machine_laws.proofs.Outcomes.{OnEnd}
use Rattle.erasure_law.proofs.Fits.{Fits, NotFailed, Calm}
use Rattle.erasure_law.proofs.TurnFits.{leads_calm}
use Rattle.erasure_law.proofs.CalmTurns.{code_calm}
use Rattle.erasure_law.proofs.BlockCalm.{atomic_fits}
use Rattle.object_types.specs.Sets.{every}
use Rattle.object_types.specs.References.{is_thread}
use Rattle.object_types.specs.Heap.{Heap}
use Rattle.method.specs.Legal.{Good}
use Rattle.method.specs.Typing.{WellTyped, Refs, only_if, takes, right_values, is_ref, is_claim_expr, inner_ok, action_ok}
use Rattle.method.specs.Actions.{Fresh}
use Rattle.method.specs.Machine.{Remaining, Run, Test, WrapAgain, Receive, Activation, turn_of, thread_turn}
use Rattle.method.proofs.Global.{and_both}
use Rattle.machine_laws.proofs.Outcomes.{OnGave, end_map}
use Rattle.machine_laws.proofs.Frames.{remaining_ok, FramesOk}
use Rattle.machine_laws.proofs.Typed.{Env, only_if_some, not_both}
use Rattle.plain_machine.specs.PlainCode.{Code, StoreItem, Worth, Exchange, is_ghost_target, plain_store_of, plain_inner, plain_code}
use Rattle.plain_machine.specs.PlainSteps.{Comes, PlainFrame, PlainTurn, plain_item, plain_turn}
use Rattle.plain_machine.specs.Erasure.{plain_heap, plain_frame}
use Rattle.plain_machine.specs.GhostApart.{GhostApart, concrete_place, concrete_right, ghost_right, ghost_inners, ghost_inner, inner_apart, action_apart, concrete_statements}
use Rattle.erasure_law.specs.ApartCode.{item_apart, code_apart, frames_apart}
use Rattle.erasure_law.specs.Choices.{item_choices, frames_choices}
use Rattle.erasure_law.specs.Laws.{Leads, LeadsIn, silent, silent_action, concrete_code, concrete_frames}
use Rattle.erasure_law.proofs.Direct.{direct_item}
use Rattle.erasure_law.proofs.ValueKinds.{unghost}
use Rattle.erasure_law.proofs.StoreTurns.{item_of, frame_is}
use Rattle.erasure_law.proofs.ReturnTurns.{TopWaits}
use Rattle.erasure_law.proofs.ConcreteTurns.{concrete_store, taken, code_leads, waits_of}
use Rattle.erasure_law.proofs.BlockTurns.{all_ghost, ghost_first, block_goes}

-- a block that isn't ghost has one concrete statement
one_concrete : (p : Program) (f : FunctionInfo) (body : List Inner) → nat_le (concrete_statements p f body) 1 ≡ true → every (ghost_inner p f) body ≡ false → concrete_statements p f body ≡ 1
one_concrete p f body most some = by (concrete_statements p f body) (all_ghost p f body) most
  where
    by : (n : ℕ) → (n ≡ 0 → every (ghost_inner p f) body ≡ true) → nat_le n 1 ≡ true → n ≡ 1
    by zero g m = absurd (not_both (every (ghost_inner p f) body) (g refl) some)
    by (suc zero) g m = refl
    by (suc (suc n)) g m = let z = leb-true (suc (suc n)) 1 m in absurd (omega (arith, z))

module _ (p : Program) (typed : WellTyped p) (apart : GhostApart p) (h : Heap) (good : Good p h) (f : FunctionInfo) (a : Activation) (is : slice_get p.functions.items a.context.function ≡ Some f) (below : List Activation) (env : Env p f h a.locals) (waits : TopWaits p below) (me : is_thread a.context.me ≡ true) (number : ℕ) where
  abbrev item : List Value → Code → Comes PlainTurn
  item choices c = item_of p typed apart f a is below h good env choices c

  abbrev LeadsAt : List Value → List Remaining → Type 0
  LeadsAt choices code = OnGave (turn_of p (Fresh number) choices a code below h) (LeadsIn p (item (item_choices p code choices) (plain_code p f code)))

  block_leads : (choices : List Value) (line : ℕ) (x : Action) (code : List Remaining) → action_apart p f x ≡ true → action_ok p f a.context.function x ≡ true → silent_action p f x ≡ false → direct_item (Run (Do line x) ∷ code) ≡ false → LeadsAt choices (Run (Do line x) ∷ code)
  block_leads choices line (Simply s) code k ok g d = absurd (not_both true refl d)
  block_leads choices line (Declare i) code k ok g d = absurd (not_both true refl d)
  block_leads choices line (Define i r) code k ok g d = absurd (not_both true refl d)
  block_leads choices line (WrapObject ty q e) code k ok g d = absurd (not_both true refl d)
  block_leads choices line (UnwrapObject e) code k ok g d = absurd (not_both true refl d)
  block_leads choices line (AssertSpec e) code k ok g d = absurd (not_both true refl d)
  block_leads choices line (FreeObject e) code k ok g d = absurd (not_both true refl d)
  block_leads choices line (SpawnThread j es) code k ok g d = absurd (not_both true refl d)
  block_leads choices line (Atomic ls body) code k ok g d =
      let b = and_both (every (inner_apart p f) body.items) (nat_le (concrete_statements p f body.items) 1) k in
      let o = and_both (every (λ (i : Listed). is_ref p f i.object && (not i.is_claim || is_claim_expr p f i.object)) ls.items) (every (inner_ok p f a.context.function) body.items) ok in
      block_goes p typed apart f a is below h good env me (Fresh number) choices line ls body code b.0 o.1 (one_concrete p f body.items b.1 g)

  other_leads : (choices : List Value) (code : List Remaining) → every (item_apart p f) code ≡ true → every (remaining_ok p f a.context.function) code ≡ true → silent p f code ≡ false → direct_item code ≡ false → LeadsAt choices code
  other_leads choices [] k ok g d = absurd (not_both true refl d)
  other_leads choices (Run (Do line x) ∷ code) k ok g d = block_leads choices line x code (and_both (action_apart p f x) (every (item_apart p f) code) k).0 (and_both (action_ok p f a.context.function x) (every (remaining_ok p f a.context.function) code) ok).0 g d
  other_leads choices (Run (If' line in_ghost e m x n y) ∷ code) k ok g d = absurd (not_both true refl d)
  other_leads choices (Run (While' line invs e m row) ∷ code) k ok g d = absurd (not_both true refl d)
  other_leads choices (Run (DoWhile' line invs m row t e) ∷ code) k ok g d = absurd (not_both true refl d)
  other_leads choices (Run (Unwrapping' line ty q e m row) ∷ code) k ok g d = absurd (not_both true refl d)
  other_leads choices (Run (Call line to c j es) ∷ code) k ok g d = absurd (not_both true refl d)
  other_leads choices (Run (Return line e) ∷ code) k ok g d = absurd (not_both true refl d)
  other_leads choices (Test line e s ∷ code) k ok g d = absurd (not_both true refl d)
  other_leads choices (WrapAgain line ty o ∷ code) k ok g d = absurd (not_both true refl d)
  other_leads choices (Receive line place c ∷ code) k ok g d = absurd (not_both true refl d)

  all_lead : (choices : List Value) (code : List Remaining) → every (item_apart p f) code ≡ true → every (remaining_ok p f a.context.function) code ≡ true → silent p f code ≡ false → LeadsAt choices code
  all_lead choices code k ok g = by (direct_item code) refl
    where
      by : (b : Bool) → direct_item code ≡ b → LeadsAt choices code
      by true d = end_map (turn_of p (Fresh number) choices a code below h).end (Leads p (item (item_choices p code choices) (plain_code p f code))) (LeadsIn p (item (item_choices p code choices) (plain_code p f code))) (λ turn y. (turn.line, y)) (code_leads p typed apart h good f a is below env waits me number choices code k ok g d)
      by false d = other_leads choices code k ok g d

-- a thread's turn
pub frames_lead_all : (p : Program) (typed : WellTyped p) (apart : GhostApart p) (h : Heap) (good : Good p h) (me : Ref) (number : ℕ) (choices : List Value) (fs : List Activation) → FramesOk p typed me fs → frames_apart p fs ≡ true → concrete_frames p fs ≡ true →
    OnGave (thread_turn p (Fresh number) choices fs h) (LeadsIn p (plain_turn p (frames_choices p fs choices) (map (plain_frame p) fs) (plain_heap p h)))
frames_lead_all p typed apart h good me number choices [] ok k d = tt
frames_lead_all p typed apart h good me number choices (a ∷ below) ok k d =
    let f = ok.0.info in
    let is = ok.0.is in
    let env : Env p f h a.locals = record { heap = good.well_formed; types = typed.variable_types a.context.function f is; locals = ok.0.locals } in
    let c = and_both (code_apart p (slice_get p.functions.items a.context.function) a.code) (frames_apart p below) k in
    subst (λ (fr : PlainFrame). OnGave (turn_of p (Fresh number) choices a a.code below h) (LeadsIn p (plain_item p (item_choices p a.code choices) fr fr.code (map (plain_frame p) below) (plain_heap p h)))) (frame_is p typed apart f a is below h good env a.locals a.code)
    (all_lead p typed apart h good f a is below env (waits_of p typed me f.result below ok.1 c.1) ok.0.thread number choices a.code
    (subst (λ (o : Option FunctionInfo). code_apart p o a.code ≡ true) is c.0) ok.0.code_ok (unghost (silent p f a.code) (subst (λ (o : Option FunctionInfo). concrete_code p o a.code ≡ true) is d)))

-- A block that takes no choices waits where it is given some.

leads_in_calm : (p : Program) (e : End Turn) (c : Comes PlainTurn) → Fits e → NotFailed e → OnEnd e (LeadsIn p c) → Calm c
leads_in_calm p Misfit c x y z = absurd x
leads_in_calm p (Failed n kind line) c x y z = absurd y
leads_in_calm p (Gave turn) c x y z = leads_calm p (Gave (record turn { line = z.0 })) c tt tt z.1

module _ (p : Program) (typed : WellTyped p) (apart : GhostApart p) (h : Heap) (good : Good p h) (f : FunctionInfo) (a : Activation) (is : slice_get p.functions.items a.context.function ≡ Some f) (below : List Activation) (env : Env p f h a.locals) where
  abbrev waiting : Value → List Value → Code → Type 0
  waiting w ws c = Calm (item_of p typed apart f a is below h good env (w ∷ ws) c)

  store_waits : (w : Value) (ws : List Value) (line : ℕ) (t : Target) (r : RightSide) (c : Code) → is_ghost_target p f t ≡ false → concrete_right p f r ≡ true → takes p f t (right_values p f a.context.function true r) ≡ true → waiting w ws (plain_store_of p f line t r c)
  store_waits w ws line t (Compute e) c g k ok = subst (λ b. waiting w ws (if b then c else StoreItem line t (Worth e) c)) (sym g) tt
  store_waits w ws line t (Malloc ty) c g k ok =
      let v = taken p f t (only_if (not true && is_struct p ty) (Refs (Pointer ty))) ok in
      absurd (not_both false (only_if_some (not true && is_struct p ty) (Refs (Pointer ty)) v.0 v.1).0 refl)
  store_waits w ws line t (NewClaim n) c g k ok = absurd (not_both false k refl)
  store_waits w ws line t (Interlocked e q op then') c g k ok = subst (λ b. waiting w ws (if b then c else StoreItem line t (Exchange e q op then') c)) (sym g) tt

  inner_waits : (w : Value) (ws : List Value) (i : Inner) (body : List Inner) (c : Code) → ghost_inner p f i ≡ false → inner_apart p f i ≡ true → inner_ok p f a.context.function i ≡ true → waiting w ws (plain_inner p f (i ∷ body) c)
  inner_waits w ws (InsideIf' line e m x q y) body c g k ok = absurd (not_both (ghost_inners p f x && ghost_inners p f y) k g)
  inner_waits w ws (Inside line (ChangeOwned o e es)) body c g k ok = absurd (not_both true refl g)
  inner_waits w ws (Inside line (EndClaim q e es)) body c g k ok = absurd (not_both true refl g)
  inner_waits w ws (Inside line (Assign t r)) body c g k ok =
      let b = concrete_store (is_ghost_target p f t) (ghost_right p f r) (concrete_place p f t && concrete_right p f r) k g in
      store_waits w ws line t r (plain_inner p f body c) b.0 (and_both (concrete_place p f t) (concrete_right p f r) b.1).1 ok

  block_waits : (w : Value) (ws : List Value) (body : List Inner) (c : Code) → every (ghost_inner p f) body ≡ false → every (inner_apart p f) body ≡ true → every (inner_ok p f a.context.function) body ≡ true → waiting w ws (plain_inner p f body c)
  block_waits w ws [] c g k ok = absurd (not_both true refl g)
  block_waits w ws (i ∷ body) c g k ok =
      let x = and_both (inner_apart p f i) (every (inner_apart p f) body) k in
      let y = and_both (inner_ok p f a.context.function i) (every (inner_ok p f a.context.function) body) ok in
      by (ghost_inner p f i) refl g x.0 y.0 (λ e. block_waits w ws body c e x.1 y.1)
    where
      by : (b : Bool) → ghost_inner p f i ≡ b → b && every (ghost_inner p f) body ≡ false → inner_apart p f i ≡ true → inner_ok p f a.context.function i ≡ true → (every (ghost_inner p f) body ≡ false → waiting w ws (plain_inner p f body c)) → waiting w ws (plain_inner p f (i ∷ body) c)
      by true e g k ok more = subst (waiting w ws) (sym (ghost_first p f i body c e)) (more g)
      by false e g k ok more = inner_waits w ws i body c e k ok

  module _ (waits : TopWaits p below) (me : is_thread a.context.me ≡ true) (number : ℕ) where
    abbrev CalmAt : List Value → List Remaining → Type 0
    CalmAt choices code = Calm (item_of p typed apart f a is below h good env choices (plain_code p f code))

    block_calm : (choices : List Value) (line : ℕ) (x : Action) (code : List Remaining) → action_apart p f x ≡ true → action_ok p f a.context.function x ≡ true → silent_action p f x ≡ false → direct_item (Run (Do line x) ∷ code) ≡ false →
        ((cs : List Value) → NotFailed (turn_of p (Fresh number) cs a (Run (Do line x) ∷ code) below h).end) → CalmAt choices (Run (Do line x) ∷ code)
    block_calm choices line (Simply s) code k ok g d z = absurd (not_both true refl d)
    block_calm choices line (Declare i) code k ok g d z = absurd (not_both true refl d)
    block_calm choices line (Define i r) code k ok g d z = absurd (not_both true refl d)
    block_calm choices line (WrapObject ty q e) code k ok g d z = absurd (not_both true refl d)
    block_calm choices line (UnwrapObject e) code k ok g d z = absurd (not_both true refl d)
    block_calm choices line (AssertSpec e) code k ok g d z = absurd (not_both true refl d)
    block_calm choices line (FreeObject e) code k ok g d z = absurd (not_both true refl d)
    block_calm choices line (SpawnThread j es) code k ok g d z = absurd (not_both true refl d)
    block_calm [] line (Atomic ls body) code k ok g d z =
        let o = and_both (every (λ (i : Listed). is_ref p f i.object && (not i.is_claim || is_claim_expr p f i.object)) ls.items) (every (inner_ok p f a.context.function) body.items) ok in
        leads_in_calm p (turn_of p (Fresh number) [] a (Run (Do line (Atomic ls body)) ∷ code) below h).end (item_of p typed apart f a is below h good env [] (plain_code p f (Run (Do line (Atomic ls body)) ∷ code)))
        (atomic_fits p f a below h number line ls body code o.1) (z []) (block_leads p typed apart h good f a is below env waits me number [] line (Atomic ls body) code k ok g d)
    block_calm (w ∷ ws) line (Atomic ls body) code k ok g d z =
        let b = and_both (every (inner_apart p f) body.items) (nat_le (concrete_statements p f body.items) 1) k in
        let o = and_both (every (λ (i : Listed). is_ref p f i.object && (not i.is_claim || is_claim_expr p f i.object)) ls.items) (every (inner_ok p f a.context.function) body.items) ok in
        block_waits w ws body.items (plain_code p f code) g b.0 o.1

    other_calm : (choices : List Value) (code : List Remaining) → every (item_apart p f) code ≡ true → every (remaining_ok p f a.context.function) code ≡ true → silent p f code ≡ false → direct_item code ≡ false → ((cs : List Value) → NotFailed (turn_of p (Fresh number) cs a code below h).end) → CalmAt choices code
    other_calm choices [] k ok g d z = absurd (not_both true refl d)
    other_calm choices (Run (Do line x) ∷ code) k ok g d z = block_calm choices line x code (and_both (action_apart p f x) (every (item_apart p f) code) k).0 (and_both (action_ok p f a.context.function x) (every (remaining_ok p f a.context.function) code) ok).0 g d z
    other_calm choices (Run (If' line in_ghost e m x n y) ∷ code) k ok g d z = absurd (not_both true refl d)
    other_calm choices (Run (While' line invs e m row) ∷ code) k ok g d z = absurd (not_both true refl d)
    other_calm choices (Run (DoWhile' line invs m row t e) ∷ code) k ok g d z = absurd (not_both true refl d)
    other_calm choices (Run (Unwrapping' line ty q e m row) ∷ code) k ok g d z = absurd (not_both true refl d)
    other_calm choices (Run (Call line to c j es) ∷ code) k ok g d z = absurd (not_both true refl d)
    other_calm choices (Run (Return line e) ∷ code) k ok g d z = absurd (not_both true refl d)
    other_calm choices (Test line e s ∷ code) k ok g d z = absurd (not_both true refl d)
    other_calm choices (WrapAgain line ty o ∷ code) k ok g d z = absurd (not_both true refl d)
    other_calm choices (Receive line place c ∷ code) k ok g d z = absurd (not_both true refl d)

    all_calm : (choices : List Value) (code : List Remaining) → every (item_apart p f) code ≡ true → every (remaining_ok p f a.context.function) code ≡ true → silent p f code ≡ false → ((cs : List Value) → NotFailed (turn_of p (Fresh number) cs a code below h).end) → CalmAt choices code
    all_calm choices code k ok g z = by (direct_item code) refl
      where
        by : (b : Bool) → direct_item code ≡ b → CalmAt choices code
        by true d = code_calm p typed apart h good f a is below env waits me number choices code k ok g d z
        by false d = other_calm choices code k ok g d z

pub frames_calm_all : (p : Program) (typed : WellTyped p) (apart : GhostApart p) (h : Heap) (good : Good p h) (me : Ref) (number : ℕ) (choices : List Value) (fs : List Activation) → FramesOk p typed me fs → frames_apart p fs ≡ true → concrete_frames p fs ≡ true →
    ((cs : List Value) → NotFailed (thread_turn p (Fresh number) cs fs h).end) → Calm (plain_turn p choices (map (plain_frame p) fs) (plain_heap p h))
frames_calm_all p typed apart h good me number choices [] ok k d z = tt
frames_calm_all p typed apart h good me number choices (a ∷ below) ok k d z =
    let f = ok.0.info in
    let is = ok.0.is in
    let env : Env p f h a.locals = record { heap = good.well_formed; types = typed.variable_types a.context.function f is; locals = ok.0.locals } in
    let c = and_both (code_apart p (slice_get p.functions.items a.context.function) a.code) (frames_apart p below) k in
    subst (λ (fr : PlainFrame). Calm (plain_item p choices fr fr.code (map (plain_frame p) below) (plain_heap p h))) (frame_is p typed apart f a is below h good env a.locals a.code)
    (all_calm p typed apart h good f a is below env (waits_of p typed me f.result below ok.1 c.1) ok.0.thread number choices a.code
    (subst (λ (o : Option FunctionInfo). code_apart p o a.code ≡ true) is c.0) ok.0.code_ok (unghost (silent p f a.code) (subst (λ (o : Option FunctionInfo). concrete_code p o a.code ≡ true) is d)) z)
