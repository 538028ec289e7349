-- The parser's walk over words, and the pieces that the words are.
use Rattle.std.proofs.Common.{◌≡◌, List, [], ◌∷◌, ◌++◌, codes, None, false, refl, sym, ap, subst, ◌∙◌, inl, inr}
use Rattle.std.specs.List.{fold}
use Rattle.clap.specs.Kinds.{Kinds, or_else}
use Rattle.clap.specs.Faults.{walk_fault}
use Rattle.clap.specs.Walk.{Held, Row, Text, Walk, has_row, walked}
use Rattle.clap.specs.declared.error.kind.ErrorKind.TheVariants as kind
use Rattle.vcc_words.specs.Words.{IsName}
use Rattle.vcc_words.specs.Arguments.{Piece, Name, Leaves, Rounds, Are, Begins, IsPlain, IsOption, IsOptionWord, Every}
use Rattle.vcc_words.proofs.Stages.{Limit, of_leaves, of_rounds, id_of, word_of, piece_of, Stage, neither, one, both, place, add, Fresh, grow, limit_fresh, limit_grow}
use Rattle.vcc_words.proofs.Turns.{Turn, apart_turn, c, cert_pends, cert_turn, fault_at, idle_at, joined_turn, limit_pends, nil_or, no_text, not_repeats, or_nil, pending_with, repeats, repeats_not, row_settles, rows_at, settles, some_kind, source_pends, source_turn, text_turn, third_fault, top, waits_at, waits_fault, with_row}

abbrev pub End : Walk → List Text → Walk
End w ws = fold (walked c []) w ws

-- the walk over the words has no fault, and what is pending behind it none
pub record Passes (w : Walk) (ws : List Text) : Type 0 where
  pub faults : walk_fault top [] w ws ≡ []
  pub last : settles (End w ws).held ≡ []

step : (w v : Walk) (x : Text) (ws : List Text) (kinds : Kinds) → Turn w x v kinds → Passes w (x ∷ ws) → (kinds ≡ []) × Passes v ws
unfolding walk_fault fault_at
step w v x ws kinds t p =
    let o = or_nil (fault_at w x) (walk_fault top [] (walked c [] w x) ws) p.faults in
    (sym t.fault ∙ o.0, record { faults = ap (λ (u : Walk). walk_fault top [] u ws) (sym t.walk) ∙ o.1; last = ap (λ (u : Walk). settles (End u ws).held) (sym t.walk) ∙ p.last })

back : (w v : Walk) (x : Text) (ws : List Text) (kinds : Kinds) → Turn w x v kinds → kinds ≡ [] → Passes v ws → Passes w (x ∷ ws)
unfolding walk_fault fault_at
back w v x ws kinds t none p = record {
  faults = nil_or (fault_at w x) (walk_fault top [] (walked c [] w x) ws) (t.fault ∙ none) (ap (λ (u : Walk). walk_fault top [] u ws) t.walk ∙ p.faults);
  last = ap (λ (u : Walk). settles (End u ws).held) t.walk ∙ p.last;
}

first_fault : (w : Walk) (x : Text) (ws : List Text) → Passes w (x ∷ ws) → fault_at w x ≡ []
unfolding walk_fault fault_at
first_fault w x ws p = (or_nil (fault_at w x) (walk_fault top [] (walked c [] w x) ws) p.faults).0

-- ---- a walk with no fault has pieces

pub record Sound (s : Stage) (h : Held) (ws : List Text) : Type 0 where
  pub settled_ok : settles h ≡ []
  pub pieces : List Piece
  pub are : Are ws pieces
  pub fresh : Fresh s (rows_at h) pieces
  pub rows : rows_at (End (idle_at h (place s)) ws).held ≡ grow s (rows_at h) pieces
  pub stopped : (End (idle_at h (place s)) ws).stopped ≡ None

abbrev Next : List Text → Type 0
Next ws = (s : Stage) (h : Held) → Passes (idle_at h (place s)) ws → Sound s h ws

-- one piece more in front
front : (s t : Stage) (h k : Held) (p : Piece) (ws rest : List Text) → Begins ws p rest → settles h ≡ [] → End (idle_at h (place s)) ws ≡ End (idle_at k (place t)) rest
    → ((more : List Piece) → Fresh t (rows_at k) more → Fresh s (rows_at h) (p ∷ more)) → ((more : List Piece) → grow t (rows_at k) more ≡ grow s (rows_at h) (p ∷ more)) → Sound t k rest → Sound s h ws
front s t h k p ws rest b ok same keeps grows m = record {
  settled_ok = ok;
  pieces = p ∷ m.pieces;
  are = (rest, b, m.are);
  fresh = keeps m.pieces m.fresh;
  rows = ap (λ (w : Walk). rows_at w.held) same ∙ m.rows ∙ grows m.pieces;
  stopped = ap (λ (w : Walk). w.stopped) same ∙ m.stopped;
}

name_sound : (s : Stage) (h : Held) (w : Text) (ws : List Text) → IsName w → Passes (idle_at h (place s)) (w ∷ ws) → Next ws → Sound s h (w ∷ ws)
name_sound neither h w ws is p more =
    let k : Held = pending_with (codes "source") w (rows_at h) h.skip in
    let t = source_turn h w is in
    let q = step (idle_at h 1) (idle_at k 2) w ws (settles h) t p in
    let m = more one k q.1 in
    let pends = source_pends (rows_at h) h.skip w in
    front neither one h k (Name w) (w ∷ ws) ws (refl, is) q.0 (ap (λ (v : Walk). End v ws) t.walk)
    (λ ps f. (tt, repeats_not (has_row (codes "source") (rows_at h)) (sym pends.0 ∙ m.settled_ok), subst (λ (rs : List Row). Fresh one rs ps) pends.1 f))
    (λ ps. ap (λ (rs : List Row). grow one rs ps) pends.1) m
name_sound one h w ws is p more =
    let k : Held = pending_with (codes "cert") w (rows_at h) h.skip in
    let t = cert_turn h w is in
    let q = step (idle_at h 2) (idle_at k 3) w ws (settles h) t p in
    let m = more both k q.1 in
    let pends = cert_pends (rows_at h) h.skip w in
    front one both h k (Name w) (w ∷ ws) ws (refl, is) q.0 (ap (λ (v : Walk). End v ws) t.walk)
    (λ ps f. (tt, repeats_not (has_row (codes "cert") (rows_at h)) (sym pends.0 ∙ m.settled_ok), subst (λ (rs : List Row). Fresh both rs ps) pends.1 f))
    (λ ps. ap (λ (rs : List Row). grow both rs ps) pends.1) m
name_sound both h w ws is p more = absurd (some_kind kind.UnknownArgument (fault_at (idle_at h 3) w) (third_fault h w is) (first_fault (idle_at h 3) w ws p))

begins_joined : (o : Limit) (x : Text) (ws : List Text) → Begins ((word_of o ++ 61 ∷ x) ∷ ws) (piece_of o x) ws
begins_joined of_leaves x ws = inr refl
begins_joined of_rounds x ws = inr refl

begins_apart : (o : Limit) (x : Text) (ws : List Text) → IsName x → Begins (word_of o ∷ x ∷ ws) (piece_of o x) ws
begins_apart of_leaves x ws is = inl (refl, is)
begins_apart of_rounds x ws is = inl (refl, is)

joined_sound : (o : Limit) (s : Stage) (h : Held) (x : Text) (ws : List Text) → Passes (idle_at h (place s)) ((word_of o ++ 61 ∷ x) ∷ ws) → Next ws → Sound s h ((word_of o ++ 61 ∷ x) ∷ ws)
joined_sound o s h x ws p more =
    let k : Held = with_row (id_of o) x (rows_at h) h.skip in
    let t = joined_turn o h (place s) x in
    let q = step (idle_at h (place s)) (idle_at k (place s)) (word_of o ++ 61 ∷ x) ws (or_else (or_else (settles h) (repeats (has_row (id_of o) (rows_at h)))) []) t p in
    let parts = or_nil (settles h) (repeats (has_row (id_of o) (rows_at h))) (or_nil (or_else (settles h) (repeats (has_row (id_of o) (rows_at h)))) [] q.0).0 in
    let m = more s k q.1 in
    let holds = (row_settles (id_of o) x (rows_at h) h.skip).1 in
    front s s h k (piece_of o x) ((word_of o ++ 61 ∷ x) ∷ ws) ws (begins_joined o x ws) parts.0 (ap (λ (v : Walk). End v ws) t.walk)
    (λ ps f. limit_fresh o s (rows_at h) x ps (repeats_not (has_row (id_of o) (rows_at h)) parts.1) (subst (λ (rs : List Row). Fresh s rs ps) holds f))
    (λ ps. ap (λ (rs : List Row). grow s rs ps) holds ∙ limit_grow o s (rows_at h) x ps) m

apart_sound : (o : Limit) (s : Stage) (h : Held) (x : Text) (ws : List Text) → IsName x → Passes (idle_at h (place s)) (word_of o ∷ x ∷ ws) → Next ws → Sound s h (word_of o ∷ x ∷ ws)
apart_sound o s h x ws is p more =
    let k : Held = pending_with (id_of o) x (rows_at h) h.skip in
    let v : Walk = waits_at (id_of o) (rows_at h) h.skip (place s) in
    let t = apart_turn o h (place s) in
    let u = text_turn o (rows_at h) h.skip (place s) x is in
    let q = step (idle_at h (place s)) v (word_of o) (x ∷ ws) (or_else (settles h) []) t p in
    let r = step v (idle_at k (place s)) x ws [] u q.1 in
    let m = more s k r.1 in
    let pends = limit_pends o (rows_at h) h.skip x in
    front s s h k (piece_of o x) (word_of o ∷ x ∷ ws) ws (begins_apart o x ws is) (or_nil (settles h) [] q.0).0
    (ap (λ (z : Walk). End z (x ∷ ws)) t.walk ∙ ap (λ (z : Walk). End z ws) u.walk)
    (λ ps f. limit_fresh o s (rows_at h) x ps (repeats_not (has_row (id_of o) (rows_at h)) (sym pends.0 ∙ m.settled_ok)) (subst (λ (rs : List Row). Fresh s rs ps) pends.1 f))
    (λ ps. ap (λ (rs : List Row). grow s rs ps) pends.1 ∙ limit_grow o s (rows_at h) x ps) m

alone_sound : (o : Limit) (s : Stage) (h : Held) → Passes (idle_at h (place s)) (word_of o ∷ []) → ⊥
alone_sound o s h p =
    let v : Walk = waits_at (id_of o) (rows_at h) h.skip (place s) in
    let q = step (idle_at h (place s)) v (word_of o) [] (or_else (settles h) []) (apart_turn o h (place s)) p in
    some_kind kind.InvalidValue (settles v.held) (waits_fault o (rows_at h) h.skip (place s)) q.1.last

limit_sound : (o : Limit) (s : Stage) (h : Held) (x : Text) (ws : List Text) → IsPlain x → Passes (idle_at h (place s)) (word_of o ∷ x ∷ ws) → Next ws → Sound s h (word_of o ∷ x ∷ ws)
limit_sound o s h x ws plain p more =
    let v : Walk = waits_at (id_of o) (rows_at h) h.skip (place s) in
    let q = step (idle_at h (place s)) v (word_of o) (x ∷ ws) (or_else (settles h) []) (apart_turn o h (place s)) p in
    elim plain [
      | inl is ↦ apart_sound o s h x ws is p more
      | inr other ↦ elim other [
        | inl f ↦ absurd (no_text o of_leaves (rows_at h) h.skip (place s) x f (first_fault v x ws q.1))
        | inr f ↦ absurd (no_text o of_rounds (rows_at h) h.skip (place s) x f (first_fault v x ws q.1))
      ]
    ]

-- words behind an option's own word
abbrev After : List Text → Type 0
After ws = (o : Limit) (s : Stage) (h : Held) → Passes (idle_at h (place s)) (word_of o ∷ ws) → Sound s h (word_of o ∷ ws)

option_sound : (o : Limit) (s : Stage) (h : Held) (x : Text) (ws : List Text) → IsOptionWord (word_of o) x → Passes (idle_at h (place s)) (x ∷ ws) → Next ws → After ws → Sound s h (x ∷ ws)
option_sound o s h x ws is p more after =
    elim is [
      | inl e ↦ subst (λ (t : Text). Sound s h (t ∷ ws)) (sym e) (after o s h (subst (λ (t : Text). Passes (idle_at h (place s)) (t ∷ ws)) e p))
      | inr j ↦ subst (λ (t : Text). Sound s h (t ∷ ws)) (sym j.1) (joined_sound o s h j.0 ws (subst (λ (t : Text). Passes (idle_at h (place s)) (t ∷ ws)) j.1 p) more)
    ]

word_sound : (s : Stage) (h : Held) (x : Text) (ws : List Text) → IsPlain x → Passes (idle_at h (place s)) (x ∷ ws) → Next ws → After ws → Sound s h (x ∷ ws)
word_sound s h x ws plain p more after =
    elim plain [
      | inl is ↦ name_sound s h x ws is p more
      | inr o ↦ elim o [
        | inl f ↦ option_sound of_leaves s h x ws f p more after
        | inr f ↦ option_sound of_rounds s h x ws f p more after
      ]
    ]

none_sound : (s : Stage) (h : Held) → Passes (idle_at h (place s)) [] → Sound s h []
none_sound s h p = record { settled_ok = p.last; pieces = []; are = refl; fresh = tt; rows = refl; stopped = refl }

all_sound : (ws : List Text) → Every IsPlain ws → Next ws × After ws
all_sound [] plain = (none_sound, λ o s h p. absurd (alone_sound o s h p))
all_sound (x ∷ ws) plain =
    let rest = all_sound ws plain.1 in
    (λ s h p. word_sound s h x ws plain.0 p rest.0 rest.1, λ o s h p. limit_sound o s h x ws plain.0 p rest.0)

pub sound : (ws : List Text) → Every IsPlain ws → Next ws
sound ws plain = (all_sound ws plain).0

-- ---- pieces have a walk with no fault

none_complete : (w : Walk) → settles w.held ≡ [] → Passes w []
unfolding walk_fault
none_complete w ok = record { faults = refl; last = ok }

abbrev Onward : List Piece → Type 0
Onward ps = (s : Stage) (h : Held) (ws : List Text) → Are ws ps → Fresh s (rows_at h) ps → settles h ≡ [] → Passes (idle_at h (place s)) ws

name_complete : (s : Stage) (h : Held) (w : Text) (ps : List Piece) (rest : List Text) → IsName w → Are rest ps → Fresh s (rows_at h) (Name w ∷ ps) → settles h ≡ [] → Onward ps → Passes (idle_at h (place s)) (w ∷ rest)
name_complete neither h w ps rest is a f ok more =
    let k : Held = pending_with (codes "source") w (rows_at h) h.skip in
    let pends = source_pends (rows_at h) h.skip w in
    back (idle_at h 1) (idle_at k 2) w rest (settles h) (source_turn h w is) ok
    (more one k rest a (subst (λ (rs : List Row). Fresh one rs ps) (sym pends.1) f.2) (pends.0 ∙ not_repeats (has_row (codes "source") (rows_at h)) f.1))
name_complete one h w ps rest is a f ok more =
    let k : Held = pending_with (codes "cert") w (rows_at h) h.skip in
    let pends = cert_pends (rows_at h) h.skip w in
    back (idle_at h 2) (idle_at k 3) w rest (settles h) (cert_turn h w is) ok
    (more both k rest a (subst (λ (rs : List Row). Fresh both rs ps) (sym pends.1) f.2) (pends.0 ∙ not_repeats (has_row (codes "cert") (rows_at h)) f.1))
name_complete both h w ps rest is a f ok more = absurd f.0

limit_complete : (o : Limit) (s : Stage) (h : Held) (t : Text) (ps : List Piece) (ws rest : List Text) → IsOption (word_of o) ws t rest → Are rest ps → (has_row (id_of o) (rows_at h) ≡ false) × Fresh s (add (id_of o) t (rows_at h)) ps → settles h ≡ [] → Onward ps → Passes (idle_at h (place s)) ws
limit_complete o s h t ps ws rest is a f ok more =
    let repeated = not_repeats (has_row (id_of o) (rows_at h)) f.0 in
    elim is [
      | inl e ↦
          let k : Held = pending_with (id_of o) t (rows_at h) h.skip in
          let v : Walk = waits_at (id_of o) (rows_at h) h.skip (place s) in
          let pends = limit_pends o (rows_at h) h.skip t in
          let q = back v (idle_at k (place s)) t rest [] (text_turn o (rows_at h) h.skip (place s) t e.1) refl (more s k rest a (subst (λ (rs : List Row). Fresh s rs ps) (sym pends.1) f.1) (pends.0 ∙ repeated)) in
          subst (λ (x : List Text). Passes (idle_at h (place s)) x) (sym e.0) (back (idle_at h (place s)) v (word_of o) (t ∷ rest) (or_else (settles h) []) (apart_turn o h (place s)) (nil_or (settles h) [] ok refl) q)
      | inr e ↦
          let k : Held = with_row (id_of o) t (rows_at h) h.skip in
          let holds = row_settles (id_of o) t (rows_at h) h.skip in
          let none = nil_or (or_else (settles h) (repeats (has_row (id_of o) (rows_at h)))) [] (nil_or (settles h) (repeats (has_row (id_of o) (rows_at h))) ok repeated) refl in
          subst (λ (x : List Text). Passes (idle_at h (place s)) x) (sym e) (back (idle_at h (place s)) (idle_at k (place s)) (word_of o ++ 61 ∷ t) rest (or_else (or_else (settles h) (repeats (has_row (id_of o) (rows_at h)))) []) (joined_turn o h (place s) t) none (more s k rest a (subst (λ (rs : List Row). Fresh s rs ps) (sym holds.1) f.1) holds.0))
    ]

pub complete : (ps : List Piece) → Onward ps
complete [] s h ws e f ok = subst (λ (x : List Text). Passes (idle_at h (place s)) x) (sym e) (none_complete (idle_at h (place s)) ok)
complete (Name w ∷ ps) s h ws a f ok = subst (λ (x : List Text). Passes (idle_at h (place s)) x) (sym a.1.0) (name_complete s h w ps a.0 a.1.1 a.2 f ok (complete ps))
complete (Leaves t ∷ ps) s h ws a f ok = limit_complete of_leaves s h t ps ws a.0 a.1 a.2 f ok (complete ps)
complete (Rounds t ∷ ps) s h ws a f ok = limit_complete of_rounds s h t ps ws a.0 a.1 a.2 f ok (complete ps)
