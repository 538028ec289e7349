-- The heap with a new claim, column by column.
use Rattle.std.proofs.Common.{◌≡◌, ℕ, Bool, true, false, not, cond, ◌&&◌, ◌||◌, List, [], ◌∷◌, ◌++◌, map, length, refl, ap, ap₂, sym, ◌∙◌}
use Rattle.machine_laws.proofs.Heaps.{put_same}
use Rattle.action_conditions.proofs.Columns.{put_held, or_swap}
use Rattle.std.proofs.Math.Bool.{or-false}
use Rattle.std.specs.Prelude.{pos, nat_lt}
use Rattle.object_types.specs.declared.references.Ref.{Ref}
use Rattle.object_types.specs.declared.values.Value.{Value as Scalar}
use Rattle.object_types.specs.declared.values.Value.TheVariants.{Int, Ref as Refers}
use Rattle.object_types.specs.declared.records.Mode.TheVariants.{Closed}
use Rattle.object_types.specs.declared.shapes.Entry.{Entry as HeapEntry}
use Rattle.object_types.specs.References.{same_ref}
use Rattle.object_types.specs.Values.{says}
use Rattle.object_types.specs.Sets.{is_in, every}
use Rattle.object_types.specs.Shapes.{has_entry, same_entry, with_entry, entries_of}
use Rattle.object_types.specs.Heap.{Heap, Record, put, nothing, with_listed, with_shape}
use Rattle.object_types.proofs.Members.{is_in_with}
use Rattle.object_types.proofs.Orders.{entry_order}
use Rattle.method.specs.declared.program.Program.{Program}
use Rattle.method.specs.Actions as M
use Rattle.method.proofs.Global.{and_both, every_with, every_entries, in_set}
use Rattle.terms.specs.Formula.{Formula}
use Rattle.term_meaning.specs.RawHeaps.{Place, ModeAt, OwnerAt, CountAt, MemberAt, ClaimedAt, FieldAt, ShapeAt, raw, record_value, store_at, same_place}
use Rattle.term_meaning.specs.Meaning.{PlainValue, HeapValue, ref_value, scalar, but_last, last, store_in}
use Rattle.term_meaning.proofs.Changes.{put_stored}
use Rattle.axiom_instances.proofs.Kit.{HaveAll, one, more, node_has}
use Rattle.conditions.specs.Formulas.{row, nat, me, set, shape_column, listed_column, mode_column, owner_column}
use Rattle.conditions.specs.Symbolic.{Symbolic, term}
use Rattle.conditions.specs.Annotations.{Entry}
use Rattle.conditions.specs.Code.{Spot}
use Rattle.conditions.specs.Actions as walk
use Rattle.condition_meaning.specs.Languages.{language_of}
use Rattle.condition_meaning.proofs.Environments.{Environment, Has, HeapIs, has_int, has_me}
use Rattle.condition_meaning.proofs.Columns as columns
use Rattle.action_conditions.proofs.Words.{Refer}
use Rattle.action_conditions.proofs.Places.{AllStand, stands_term}
use Rattle.action_conditions.proofs.Updates.{set_mode, set_owner, set_claimed, same_columns}
use Rattle.block_conditions.proofs.Noting.{EntriesAre}

-- Records.

-- has, by what every one is
has_by : (x : HeapEntry) (es : List HeapEntry) → has_entry x es ≡ not (every (λ d. not (same_entry x d)) es)
has_by x [] = refl
has_by x (d ∷ ds) = ap (λ b. same_entry x d || b) (has_by x ds) ∙ by (same_entry x d) (every (λ d. not (same_entry x d)) ds)
  where
    by : (a b : Bool) → a || not b ≡ not (not a && b)
    by true b = refl
    by false b = refl

has_with : (x e : HeapEntry) (es : List HeapEntry) → has_entry x (with_entry e es) ≡ same_entry x e || has_entry x es
has_with x e es = has_by x (with_entry e es) ∙ ap not (every_with (λ d. not (same_entry x d)) e es) ∙ by (same_entry x e) (every (λ d. not (same_entry x d)) es) ∙ ap (λ b. same_entry x e || b) (sym (has_by x es))
  where
    by : (a b : Bool) → not (not a && b) ≡ a || not b
    by true b = refl
    by false b = refl

has_of : (x : HeapEntry) (es : List HeapEntry) → has_entry x (entries_of es) ≡ has_entry x es
has_of x es = has_by x (entries_of es) ∙ ap not (every_entries (λ d. not (same_entry x d)) es) ∙ sym (has_by x es)

abbrev listed_all : List Ref → Record → Record
listed_all [] r = r
listed_all (o ∷ os) r = listed_all os (with_listed o true r)

abbrev shaped_all : List HeapEntry → Record → Record
shaped_all [] r = r
shaped_all (e ∷ es) r = shaped_all es (with_shape e true r)

-- what a record of many listed objects and conjuncts holds
abbrev with_both : Program → List Ref → List HeapEntry → Record → Place → Scalar
with_both p os es r (ClaimedAt q) = says (is_in q r.listed || is_in q os)
with_both p os es r (ShapeAt n vs) = says (has_entry (record { shape = n; values = vs }) r.shapes || has_entry (record { shape = n; values = vs }) es)
with_both p os es r d = record_value p r d

listed_holds : (p : Program) (os : List Ref) (r : Record) (d : Place) → record_value p (listed_all os r) d ≡ with_both p os [] r d
unfolding is_in
listed_holds p [] r ModeAt = refl
listed_holds p [] r OwnerAt = refl
listed_holds p [] r CountAt = refl
listed_holds p [] r (MemberAt q) = refl
listed_holds p [] r (ClaimedAt q) = ap says (sym (or-false (is_in q r.listed)))
listed_holds p [] r (FieldAt x) = refl
listed_holds p [] r (ShapeAt n vs) = ap says (sym (or-false (has_entry (record { shape = n; values = vs }) r.shapes)))
listed_holds p (o ∷ os) r ModeAt = listed_holds p os (with_listed o true r) ModeAt
listed_holds p (o ∷ os) r OwnerAt = listed_holds p os (with_listed o true r) OwnerAt
listed_holds p (o ∷ os) r CountAt = listed_holds p os (with_listed o true r) CountAt
listed_holds p (o ∷ os) r (MemberAt q) = listed_holds p os (with_listed o true r) (MemberAt q)
listed_holds p (o ∷ os) r (ClaimedAt q) = listed_holds p os (with_listed o true r) (ClaimedAt q) ∙ ap (λ b. says (b || is_in q os)) (is_in_with q o r.listed) ∙ ap says (sym (or_swap (is_in q r.listed) (same_ref q o) (is_in q os)))
listed_holds p (o ∷ os) r (FieldAt x) = listed_holds p os (with_listed o true r) (FieldAt x)
listed_holds p (o ∷ os) r (ShapeAt n vs) = listed_holds p os (with_listed o true r) (ShapeAt n vs)

listed_shapes : (os : List Ref) (r : Record) → (listed_all os r).shapes ≡ r.shapes
listed_shapes [] r = refl
listed_shapes (o ∷ os) r = listed_shapes os (with_listed o true r)

shaped_holds : (p : Program) (es : List HeapEntry) (r : Record) (d : Place) → record_value p (shaped_all es r) d ≡ with_both p [] es r d
unfolding is_in
shaped_holds p [] r ModeAt = refl
shaped_holds p [] r OwnerAt = refl
shaped_holds p [] r CountAt = refl
shaped_holds p [] r (MemberAt q) = refl
shaped_holds p [] r (ClaimedAt q) = ap says (sym (or-false (is_in q r.listed)))
shaped_holds p [] r (FieldAt x) = refl
shaped_holds p [] r (ShapeAt n vs) = ap says (sym (or-false (has_entry (record { shape = n; values = vs }) r.shapes)))
shaped_holds p (e ∷ es) r ModeAt = shaped_holds p es (with_shape e true r) ModeAt
shaped_holds p (e ∷ es) r OwnerAt = shaped_holds p es (with_shape e true r) OwnerAt
shaped_holds p (e ∷ es) r CountAt = shaped_holds p es (with_shape e true r) CountAt
shaped_holds p (e ∷ es) r (MemberAt q) = shaped_holds p es (with_shape e true r) (MemberAt q)
shaped_holds p (e ∷ es) r (ClaimedAt q) = shaped_holds p es (with_shape e true r) (ClaimedAt q)
shaped_holds p (e ∷ es) r (FieldAt x) = shaped_holds p es (with_shape e true r) (FieldAt x)
shaped_holds p (e ∷ es) r (ShapeAt n vs) =
    let y : HeapEntry = record { shape = n; values = vs } in
    shaped_holds p es (with_shape e true r) (ShapeAt n vs) ∙ ap (λ b. says (b || has_entry y es)) (has_with y e r.shapes) ∙ ap says (sym (or_swap (has_entry y r.shapes) (same_entry y e) (has_entry y es)))

-- Puts at one object.

pub put_twice : (p : Program) (h : Heap) (c : Ref) (r s : Record) → raw p (put (put h c r) c s) ≡ raw p (put h c s)
unfolding put
put_twice p h c r s = λ i d q. (by d q (same_ref q c)) i
  where
    by : (d : Place) (q : Ref) (b : Bool) → record_value p (cond b s (cond b r (h.get q))) d ≡ record_value p (cond b s (h.get q)) d
    by d q true = refl
    by d q false = refl

pub put_changed : (p : Program) (h : Heap) (c : Ref) (r : Record) (change : Record → Record) → raw p (put (put h c r) c (change ((put h c r).get c))) ≡ raw p (put h c (change r))
put_changed p h c r change = put_twice p h c r (change ((put h c r).get c)) ∙ ap (λ s. raw p (put h c (change s))) (put_same h c r)

-- a conjunct stored
shape_stored : (p : Program) (h : Heap) (c : Ref) (e : HeapEntry) → raw p (put h c (with_shape e true (h.get c))) ≡ store_at (raw p h) (ShapeAt e.shape e.values) c (says true)
shape_stored p h c e = put_stored p h c (with_shape e true (h.get c)) (ShapeAt e.shape e.values) (says true) (ap says (has_with e e (h.get c).shapes ∙ ap (λ b. b || has_entry e (h.get c).shapes) (entry_order.itself e))) elsewhere
  where
    elsewhere : (d : Place) → same_place d (ShapeAt e.shape e.values) ≡ false → record_value p (with_shape e true (h.get c)) d ≡ record_value p (h.get c) d
    elsewhere ModeAt k = refl
    elsewhere OwnerAt k = refl
    elsewhere CountAt k = refl
    elsewhere (MemberAt q) k = refl
    elsewhere (ClaimedAt q) k = refl
    elsewhere (FieldAt x) k = refl
    elsewhere (ShapeAt n vs) k = ap says (has_with (record { shape = n; values = vs }) e (h.get c).shapes ∙ ap (λ b. b || has_entry (record { shape = n; values = vs }) (h.get c).shapes) k)

-- the record at c, closed and with an owner
abbrev blank : Heap → Ref → Ref → Record
blank h c t = record (record (h.get c) { mode = Closed }) { owner = t }

-- In an environment.

scalars : (vs : List Scalar) (w : Scalar) → map scalar (map PlainValue vs ++ PlainValue w ∷ []) ≡ vs ++ w ∷ []
scalars [] w = refl
scalars (v ∷ vs) w = ap (λ ws. v ∷ ws) (scalars vs w)

all_but_last : (vs : List Scalar) (w : Scalar) → but_last (vs ++ w ∷ []) ≡ vs
all_but_last [] w = refl
all_but_last (v ∷ []) w = refl
all_but_last (v ∷ u ∷ vs) w = ap (λ ws. v ∷ ws) (all_but_last (u ∷ vs) w)

the_last : (vs : List Scalar) (w : Scalar) → last (vs ++ w ∷ []) ≡ w
the_last [] w = refl
the_last (v ∷ []) w = refl
the_last (v ∷ u ∷ vs) w = the_last (u ∷ vs) w

module _ (p : Program) (t : Ref) (e : Environment (language_of p) t) where
  abbrev HasIn : Formula → Scalar → Type 0
  HasIn = Has (language_of p) t e

  abbrev HeapIn : Formula → Heap → Type 0
  HeapIn = HeapIs (language_of p) t e

  keys_have : (ws : List Symbolic) (vs : List Scalar) (y : Formula) (w : Scalar) → AllStand (language_of p) t e ws vs → HasIn y w → HaveAll (language_of p) e.env (row (map term ws ++ y ∷ [])) (map PlainValue vs ++ PlainValue w ∷ [])
  keys_have [] [] y w a h = one h
  keys_have [] (v ∷ vs) y w a h = absurd a
  keys_have (x ∷ ws) [] y w a h = absurd a
  keys_have (x ∷ ws) (v ∷ vs) y w a h = more (stands_term (language_of p) t e x v a.0) (keys_have ws vs y w a.1 h)

  set_shape : (x : Formula) (h : Heap) (o : Formula) (c : Ref) (n : ℕ) (ws : List Symbolic) (vs : List Scalar) → HeapIn x h → HasIn o (Refers c) → nat_lt n (length p.shapes.items) ≡ true → AllStand (language_of p) t e ws vs → HeapIn (set (shape_column p n) x (o ∷ map term ws) (nat 1)) (put h c (with_shape (record { shape = n; values = vs }) true (h.get c)))
  set_shape x h o c n ws vs hx ho less all =
      node_has (more hx (more ho (keys_have ws vs (nat 1) (Int (pos 1)) all (has_int (language_of p) t e (pos 1)))))
      (ap HeapValue (shape_stored p h c (record { shape = n; values = vs }) ∙ ap₂ (λ ks w. store_at (raw p h) (ShapeAt n ks) c w) (sym (ap but_last (scalars vs (Int (pos 1))) ∙ all_but_last vs (Int (pos 1)))) (sym (ap last (scalars vs (Int (pos 1))) ∙ the_last vs (Int (pos 1)))))
      ∙ ap (λ d. store_in d (HeapValue (raw p h) ∷ ref_value c ∷ (map PlainValue vs ++ PlainValue (Int (pos 1)) ∷ []))) (sym (columns.shape_column p n less)))

  module _ (h : Heap) (o : Formula) (c : Ref) (ho : HasIn o (Refers c)) where
    all_listed : (os : List Formula) (rs : List Ref) → Refer (language_of p) t e os rs → (x : Formula) (r : Record) → HeapIn x (put h c r) → HeapIn (walk.list_objects o os x) (put h c (listed_all rs r))
    all_listed [] [] k x r hx = hx
    all_listed [] (q ∷ rs) k x r hx = absurd k
    all_listed (w ∷ os) [] k x r hx = absurd k
    all_listed (w ∷ os) (q ∷ rs) k x r hx =
        all_listed os rs k.1 (set listed_column x (o ∷ w ∷ []) (nat 1)) (with_listed q true r)
        (same_columns (language_of p) t e (set listed_column x (o ∷ w ∷ []) (nat 1)) (put (put h c r) c (with_listed q true ((put h c r).get c))) (put h c (with_listed q true r)) (put_changed p h c r (λ s. with_listed q true s)) (set_claimed (language_of p) t e x (put h c r) o c hx ho w (nat 1) q true k.0 (has_int (language_of p) t e (pos 1))))

    all_shaped : (ds : List Entry) (es : List HeapEntry) → EntriesAre (language_of p) t e ds es → every (λ (d : HeapEntry). nat_lt d.shape (length p.shapes.items)) es ≡ true → (x : Formula) (r : Record) → HeapIn x (put h c r) → HeapIn (walk.record_shapes p o ds x) (put h c (shaped_all es r))
    all_shaped [] [] k less x r hx = hx
    all_shaped [] (y ∷ es) k less x r hx = absurd k
    all_shaped (d ∷ ds) [] k less x r hx = absurd k
    all_shaped (d ∷ ds) (y ∷ es) k less x r hx =
        let b = and_both (nat_lt y.shape (length p.shapes.items)) (every (λ (d : HeapEntry). nat_lt d.shape (length p.shapes.items)) es) less in
        let n : nat_lt d.shape (length p.shapes.items) ≡ true = ap (λ i. nat_lt i (length p.shapes.items)) k.0.shape ∙ b.0 in
        let new : HeapEntry = record { shape = d.shape; values = y.values } in
        let same : new ≡ y = ap (λ (i : ℕ). record { shape = i; values = y.values }) k.0.shape in
        let step = set_shape x (put h c r) o c d.shape d.values y.values hx ho n k.0.values in
        let y1 = set (shape_column p d.shape) x (o ∷ map term d.values) (nat 1) in
        all_shaped ds es k.1 b.1 y1 (with_shape y true r)
        (same_columns (language_of p) t e y1 (put (put h c r) c (with_shape new true ((put h c r).get c))) (put h c (with_shape y true r)) (put_changed p h c r (λ s. with_shape new true s) ∙ ap (λ (z : HeapEntry). raw p (put h c (with_shape z true r))) same) step)

  -- a claim where nothing was
  pub claim_heap : (x : Formula) (h : Heap) (o : Formula) (c : Ref) (os : List Formula) (rs : List Ref) (ds : List Entry) (es : List HeapEntry) → HeapIn x h → HasIn o (Refers c) → h.get c ≡ nothing → Refer (language_of p) t e os rs → EntriesAre (language_of p) t e ds es → every (λ (d : HeapEntry). nat_lt d.shape (length p.shapes.items)) es ≡ true → (a : Spot) → HeapIn (walk.new_claim p a o os ds x) (put h c (M.new_claim t rs es))
  unfolding is_in
  claim_heap x h o c os rs ds es hx ho none_ ks les less a =
      let r1 = record (h.get c) { mode = Closed } in
      let x1 = set mode_column x (o ∷ []) (nat 2) in
      let h1 = set_mode (language_of p) t e x h o c hx ho (nat 2) Closed (has_int (language_of p) t e (pos 2)) in
      let x2 = set owner_column x1 (o ∷ []) me in
      let r2 = record r1 { owner = t } in
      let h2 = same_columns (language_of p) t e x2 (put (put h c r1) c (record ((put h c r1).get c) { owner = t })) (put h c r2) (put_changed p h c r1 (λ s. record s { owner = t })) (set_owner (language_of p) t e x1 (put h c r1) o c h1 ho me t (has_me (language_of p) t e)) in
      let h3 = all_listed h o c ho os rs ks x2 r2 h2 in
      let h4 = all_shaped h o c ho ds es les less (walk.list_objects o os x2) (listed_all rs r2) h3 in
      same_columns (language_of p) t e (walk.new_claim p a o os ds x) (put h c (shaped_all es (listed_all rs r2))) (put h c (M.new_claim t rs es)) (put_held p h c (shaped_all es (listed_all rs r2)) (M.new_claim t rs es) (λ d. shaped_holds p es (listed_all rs r2) d ∙ last_step d)) h4
    where
      last_step : (d : Place) → with_both p [] es (listed_all rs (blank h c t)) d ≡ record_value p (M.new_claim t rs es) d
      last_step ModeAt = listed_holds p rs (blank h c t) ModeAt
      last_step OwnerAt = listed_holds p rs (blank h c t) OwnerAt
      last_step CountAt = listed_holds p rs (blank h c t) CountAt ∙ ap (λ (r : Record). Int r.count) none_
      last_step (MemberAt q) = listed_holds p rs (blank h c t) (MemberAt q) ∙ ap (λ (r : Record). says (is_in q r.owned)) none_
      last_step (ClaimedAt q) = ap says (or-false (is_in q (listed_all rs (blank h c t)).listed)) ∙ listed_holds p rs (blank h c t) (ClaimedAt q) ∙ ap (λ (r : Record). says (is_in q r.listed || is_in q rs)) none_ ∙ ap says (sym (in_set q rs))
      last_step (FieldAt y) = listed_holds p rs (blank h c t) (FieldAt y) ∙ ap (λ (r : Record). record_value p r (FieldAt y)) none_
      last_step (ShapeAt n vs) =
          let y : HeapEntry = record { shape = n; values = vs } in
          ap (λ (ys : List HeapEntry). says (has_entry y ys || has_entry y es)) (listed_shapes rs (blank h c t) ∙ ap (λ (r : Record). r.shapes) none_) ∙ ap says (sym (has_of y es))
