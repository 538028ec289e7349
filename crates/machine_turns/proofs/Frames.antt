-- A thread's functions, of which the code has that called last at the end.
use Rattle.std.proofs.Common.{◌≡◌, ℕ, List, [], ◌∷◌, ◌++◌, map, reverse, length, ◌⊎◌, inl, inr, Option, arith, refl, ap, sym, subst, ◌∙◌}
use Rattle.std.proofs.lemmas.List.{reverse-append, map-append}
use Rattle.object_types.specs.declared.references.Ref.{Ref}
use Rattle.object_types.specs.declared.values.Value.{Value}
use Rattle.object_types.specs.Heap.{Heap}
use Rattle.method.specs.declared.program.Program.{Program}
use Rattle.method.specs.Expressions.{Gives}
use Rattle.method.specs.Actions.{Fresh, spot, starting, convert_to, store}
use Rattle.method.specs.Machine as m
use Rattle.int_ranges.specs.declared.ctype.CType.{CType}
use Rattle.machine_values.proofs.Outcomes.{after_assoc}
use Rattle.machine_objects.specs.declared.progress.Place.{Place}
use Rattle.machine_objects.specs.Runs.{place_of}
use Rattle.machine_turns.specs.declared.activation.Remaining.{Remaining}
use Rattle.machine_turns.specs.declared.activation.Remaining.TheVariants.{Run, Test, WrapAgain}
use Rattle.std.specs.Borrow.{Bor}
use Rattle.method.specs.declared.program.Expr.{Expr}
use Rattle.method.specs.declared.program.Stmt.{Stmt}
use Rattle.machine_turns.proofs.Ahead.{ahead_more}
use Rattle.machine_turns.specs.declared.activation.Activation.{Activation}
use Rattle.machine_turns.specs.Frames.{left_of, ahead, bare_frame, frame_at, frame_of, frames_of}
use Rattle.machine_turns.specs.Turns.{AreFrames, behind, storing}

pub frames_more : (front : List Activation) (c : Activation) → frames_of (front ++ c ∷ []) ≡ frame_of c ∷ frames_of front
frames_more front c = ap reverse (map-append frame_of front (c ∷ [])) ∙ reverse-append (map frame_of front) (frame_of c ∷ [])

-- a function's run is the code's with the list beside the heap at its entry
pub listed : (b : m.Activation) (c : Activation) → bare_frame b ≡ frame_of c → b ≡ frame_at b.context.entry.support c
listed b c e = λ i. record { context = record (e i).context { entry = record { get = (e i).context.entry.get; support = b.context.entry.support } }; locals = (e i).locals; code = (e i).code }

-- the function on top, and those below
pub record Above (bs : List m.Activation) (front : List Activation) (c : Activation) : Type 0 where
  pub list : List Ref
  pub rest : List m.Activation
  pub is : bs ≡ frame_at list c ∷ rest
  pub below : AreFrames rest front

above : (bs : List m.Activation) (front : List Activation) (c : Activation) → map bare_frame bs ≡ frame_of c ∷ frames_of front → Above bs front c
above [] front c e = cc
above (b ∷ rest) front c e = record {
  list = b.context.entry.support;
  rest = rest;
  is = let one : bare_frame b ≡ frame_of c = cc in ap (λ z. z ∷ rest) (listed b c one);
  below = cc;
}

pub on_top : (bs : List m.Activation) (cs front : List Activation) (c : Activation) → AreFrames bs cs → cs ≡ front ++ c ∷ [] → Above bs front c
on_top bs cs front c are is = above bs front c (are ∙ ap frames_of is ∙ frames_more front c)

no_frames : (bs : List m.Activation) → map bare_frame bs ≡ [] → bs ≡ []
no_frames [] e = refl
no_frames (b ∷ bs) e = cc

none_of : (cs : List Activation) → length cs ≡ 0 → frames_of cs ≡ []
none_of [] e = refl
none_of (c ∷ cs) e = absurd (omega (arith, e))

pub none_on_top : (bs : List m.Activation) (cs : List Activation) → AreFrames bs cs → length cs ≡ 0 → bs ≡ []
none_on_top bs cs are e = no_frames bs (are ∙ none_of cs e)

-- a caller that wants no value stays as it is
abbrev pub IsPlain : m.Remaining → Type 0
IsPlain (m.Run s) = Unit {0}
IsPlain (m.Test line e s) = Unit {0}
IsPlain (m.WrapAgain line ty o) = Unit {0}
IsPlain (m.Receive line place c) = ⊥

pub plain_item : (x : Remaining) → ((s : Bor Stmt) × (x ≡ Run s)) ⊎ (((line : ℕ) × (e : Bor Expr) × (s : Bor Stmt) × (x ≡ Test line e s)) ⊎ ((line : ℕ) × (ty : ℕ) × (o : Ref) × (x ≡ WrapAgain line ty o))) → IsPlain (left_of x)
plain_item x (inl w) = subst (λ z. IsPlain (left_of z)) (sym w.1) tt
plain_item x (inr (inl w)) = subst (λ z. IsPlain (left_of z)) (sym w.3) tt
plain_item x (inr (inr w)) = subst (λ z. IsPlain (left_of z)) (sym w.3) tt

resume_item : (p : Program) (line : ℕ) (v : Value) (b : m.Activation) (r : m.Remaining) (code : List m.Remaining) (rest : List m.Activation) (h : Heap) → IsPlain r → m.resume_code p line v b (r ∷ code) rest h ≡ Gives (m.moved p line b (r ∷ code) rest h)
resume_item p line v b (m.Run s) code rest h is = refl
resume_item p line v b (m.Test n e s) code rest h is = refl
resume_item p line v b (m.WrapAgain n ty o) code rest h is = refl
resume_item p line v b (m.Receive n place c) code rest h is = absurd is

pub resume_plain : (p : Program) (line : ℕ) (v : Value) (b : m.Activation) (r : m.Remaining) (code : List m.Remaining) (rest : List m.Activation) (h : Heap) → IsPlain r → b.code ≡ r ∷ code → m.resume p line v (b ∷ rest) h ≡ Gives (record { heap = h; frames = b ∷ rest; started = []; line = line })
resume_plain p line v b r code rest h is e =
    ap (λ z. m.resume_code p line v b z rest h) e ∙ resume_item p line v b r code rest h is ∙ ap (λ z. Gives (m.moved p line b z rest h)) (sym e)

-- a caller that wants the value stores it
pub resume_stores : (p : Program) (line : ℕ) (v : Value) (b : m.Activation) (rest : List m.Activation) (h : Heap) (called : ℕ) (place : Place) (c : Option CType) → b.code ≡ m.Receive called (place_of place) c ∷ behind b.code → m.resume p line v (b ∷ rest) h ≡ m.action_turn p line b (behind b.code) rest (storing p (spot b.context [] called) h b.locals 0 place c v)
resume_stores p line v b rest h called place c e =
    ap (λ z. m.resume_code p line v b z rest h) e
    ∙ sym (after_assoc (convert_to (spot b.context [] called) c v 0) (λ w. store p (spot b.context [] called) (place_of place) w 0 (starting h b.locals (Fresh 0))) (λ g. Gives (record { heap = g.heap; frames = m.went b g.locals (behind b.code) ∷ rest; started = g.started; line = line })))

pub front_item : (code front : List Remaining) (item : Remaining) (r : m.Remaining) → code ≡ front ++ item ∷ [] → left_of item ≡ r → ahead code ≡ r ∷ behind (ahead code)
front_item code front item r e is = let f = ap ahead e ∙ ahead_more front item in f ∙ (λ i. is i ∷ behind (sym f i))

pub no_items : (code : List Remaining) → length code ≡ 0 → ahead code ≡ []
no_items [] e = refl
no_items (r ∷ rs) e = absurd (omega (arith, e))
