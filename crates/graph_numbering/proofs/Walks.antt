-- The steps of a walk.
use Rattle.std.proofs.Common.{◌≡◌, ℕ, zero, suc, ◌+◌, ◌-◌, ◌<◌, ◌≤◌, List, [], ◌∷◌, ◌++◌, length, set, take, drop, All, Option, None, Some, slice_get, inl, inr, refl, ap, sym, ◌∙◌, subst, arith, append_assoc, length-append}
use Rattle.std.proofs.lemmas.Bool.{cases_eq}
use Rattle.std.proofs.lemmas.List.{get_or-set_same, get_or-set_other, take_all, length-set}
use Rattle.std.proofs.lemmas.List.Elements.{All-nil, All-cons, All-weaker, All-append}
use Rattle.std.proofs.lemmas.List.Sums.{sum_by-set}
use Rattle.terms.specs.declared.term.Term.{Term}
use Rattle.terms.specs.Formula.{Formula, Formulas, Node, Stop, With, term, Interns, Stands, AllStand}
use Rattle.terms.proofs.Numbering.{Extends, extends_trans}
use Rattle.graph_numbering.specs.declared.walk.Visit.{Visit}
use Rattle.graph_numbering.specs.declared.layout.Layout.{Layout}
use Rattle.graph_numbering.specs.declared.layout.Layout.TheVariants.{Itself}
use Rattle.graph_numbering.specs.Layout.{layout_of, LaysAs, Lays, AllLays}
use Rattle.graph_numbering.specs.Places.{place_of, open_place, open_places}
use Rattle.graph_numbering.specs.Walk.{front_with, placed_front, Part, Waiting, Walking, ArePlaced, AreTerms, IsWalk, left}
use Rattle.graph_numbering.proofs.Laid.{lays_again, extends_same}

-- one more behind several
snoc : Formulas → Formula → Formulas
snoc Stop g = With g Stop
snoc (With f fs) g = With f (snoc fs g)

all_stand_snoc : (ts : List Term) (ids : List ℕ) (a : ℕ) (fs : Formulas) (g : Formula) → AllStand ts ids fs → Stands ts a g → AllStand ts (ids ++ a ∷ []) (snoc fs g)
unfolding snoc
all_stand_snoc ts ids a Stop g h s = (a, [], ap (λ xs. xs ++ a ∷ []) h, s, refl)
all_stand_snoc ts ids a (With f fs) g (b, rest, e, t, all) s =
    (b, rest ++ a ∷ [], ap (λ xs. xs ++ a ∷ []) e, t, all_stand_snoc ts rest a fs g all s)

all_lays_snoc : (args : Option (List ℕ)) (fs : Formulas) (g : Formula) (old mid new : List Term) (ids : List ℕ) (a : ℕ) → AllLays args fs old mid ids → Lays args g mid new a → AllLays args (snoc fs g) old new (ids ++ a ∷ [])
unfolding snoc
all_lays_snoc args Stop g old mid new ids a h x =
    (new, a, [], subst (λ (ts : List Term). Lays args g ts new a) h.0 x, (refl, refl), ap (λ xs. xs ++ a ∷ []) h.1)
all_lays_snoc args (With f fs) g old mid new ids a (m, b, rest, y, z, e) x =
    (m, b, rest ++ a ∷ [], y, all_lays_snoc args fs g m mid new rest a z x, ap (λ xs. xs ++ a ∷ []) e)

take_next : {X : Type 0} (xs : List X) (i : ℕ) (a : X) → slice_get xs i ≡ Some a → take (suc i) xs ≡ take i xs ++ a ∷ []
take_next [] i a h = cc
take_next (x ∷ xs) zero a h = let e : x ≡ a = cc in ap (λ y. y ∷ []) e
take_next (x ∷ xs) (suc i) a h = ap (λ ys. x ∷ ys) (take_next xs i a h)

pub no_more : (xs : List ℕ) → xs ++ [] ≡ xs
no_more [] = refl
no_more (x ∷ xs) = ap (λ ys. x ∷ ys) (no_more xs)

get_dropped : (xs : List ℕ) (n a : ℕ) (rest : List ℕ) → drop n xs ≡ a ∷ rest → (slice_get xs n ≡ Some a) × (drop (suc n) xs ≡ rest)
get_dropped [] zero a rest h = cc
get_dropped [] (suc n) a rest h = cc
get_dropped (x ∷ xs) zero a rest h = (let e : x ≡ a = cc in ap Some e, let e : xs ≡ rest = cc in e)
get_dropped (x ∷ xs) (suc n) a rest h = get_dropped xs n a rest h

drop_front : (xs ys : List ℕ) → drop (length xs) (xs ++ ys) ≡ ys
drop_front [] ys = refl
drop_front (x ∷ xs) ys = drop_front xs ys

pub take_front : (xs ys : List ℕ) → take (length xs) (xs ++ ys) ≡ xs
take_front [] ys = refl
take_front (x ∷ xs) ys = ap (λ zs. x ∷ zs) (take_front xs ys)

pub extended_length : (old new : List Term) → Extends old new → length old ≤ length new
extended_length old new (more, e) = let h : length new ≡ length (old ++ more) = ap length e in omega (arith, h, length-append old more)

longer : (xs : List ℕ) (a : ℕ) → length (xs ++ a ∷ []) ≡ suc (length xs)
longer xs a = omega (arith, length-append xs (a ∷ []))

module _ (graph : List Term) (args : Option (List ℕ)) where
  -- no argument is laid out yet
  pub part_fresh : (node : ℕ) (here : Term) (now : List Term) → slice_get graph node ≡ Some here → Part graph args node here now now []
  part_fresh node here now g = record { trees = Stop; at = g; itself = λ p. absurd (omega (arith, p)); stand = refl; laid = (refl, refl) }

  -- one argument more is
  part_more : (node : ℕ) (here : Term) (start mid new : List Term) (own : List ℕ) (a id : ℕ) (g : Formula) → Part graph args node here start mid own → layout_of args here.kind here.index ≡ Itself → slice_get here.args (length own) ≡ Some a → Stands graph a g → Lays args g mid new id → Part graph args node here start new (own ++ id ∷ [])
  part_more node here start mid new own a id g p itself child s x = record {
    trees = snoc p.trees g;
    at = p.at;
    itself = λ q. itself;
    stand = subst (λ (xs : List ℕ). AllStand graph xs (snoc p.trees g)) (sym (ap (λ n. take n here.args) (longer own id) ∙ take_next here.args (length own) a child))
        (all_stand_snoc graph (take (length own) here.args) a p.trees g p.stand s);
    laid = all_lays_snoc args p.trees g start mid new own id p.laid x;
  }

  -- all of them are, and so is the node
  pub part_whole : (node : ℕ) (here : Term) (start now new : List Term) (own : List ℕ) (id : ℕ) → Part graph args node here start now own → layout_of args here.kind here.index ≡ Itself → length own ≡ length here.args → Interns now (term here.kind here.index own) new id → (f : Formula) × Stands graph node f × Lays args f start new id
  part_whole node here start now new own id p itself e i =
      let all : take (length own) here.args ≡ here.args = take_all (length own) here.args (omega (arith, e)) in (
        Node here.kind here.index p.trees,
        (here.args, p.at, subst (λ (xs : List ℕ). AllStand graph xs p.trees) all p.stand),
        subst (λ (l : Layout). LaysAs l ((mid : List Term) × (ids : List ℕ) × AllLays args p.trees start mid ids × Interns mid (term here.kind here.index ids) new id) start new id) (sym itself)
            (now, own, p.laid, i),
      )

  -- where no argument is laid out nothing is
  no_numbers : (trees : Formulas) (start now : List Term) (own : List ℕ) → own ≡ [] → AllLays args trees start now own → now ≡ start
  no_numbers Stop start now own e h = h.0
  no_numbers (With f fs) start now own e (mid, a, rest, x, y, q) = absurd (let no : [] ≡ a ∷ rest = sym e ∙ q in cc)

  -- a constant has no argument that is laid out
  pub constant_first : (node : ℕ) (here : Term) (start now : List Term) (own : List ℕ) → Part graph args node here start now own → (layout_of args here.kind here.index ≡ Itself → ⊥) → (own ≡ []) × (now ≡ start)
  constant_first node here start now [] p h = (refl, no_numbers p.trees start now [] refl p.laid)
  constant_first node here start now (a ∷ own) p h = absurd (h (p.itself (omega arith)))

  -- a node's tree as its constant's stand-in
  pub constant_laid : (node : ℕ) (here : Term) (f : Formula) (l : Layout) (start new : List Term) (id : ℕ) → slice_get graph node ≡ Some here → Stands graph node f → layout_of args here.kind here.index ≡ l → ((own : Type 0) → LaysAs l own start new id) → Lays args f start new id
  constant_laid node here (Node kind n fs) l start new id at (ids, g, all) e h =
      let same : term kind n ids ≡ here = (let q : Some (term kind n ids) ≡ Some here = sym g ∙ at in cc) in
      let laid : layout_of args kind n ≡ l = ap (λ (t : Term). layout_of args t.kind t.index) same ∙ e in
      subst (λ (m : Layout). LaysAs m ((mid : List Term) × (is : List ℕ) × AllLays args fs start mid is × Interns mid (term kind n is) new id) start new id) (sym laid) (h _)

  -- the numbers of arguments that have them are put behind
  pub part_pushed : (places : List (Option ℕ)) (node : ℕ) (here : Term) (start now : List Term) (rest own : List ℕ) → ArePlaced graph args places now → layout_of args here.kind here.index ≡ Itself → drop (length own) here.args ≡ rest → Part graph args node here start now own → Part graph args node here start now (own ++ placed_front places rest)
  part_pushed places node here start now [] own placed itself e p = subst (λ (xs : List ℕ). Part graph args node here start now xs) (sym (no_more own)) p
  part_pushed places node here start now (a ∷ rest) own placed itself e p =
      elim (place_of places a) as (λ o. place_of places a ≡ o → Part graph args node here start now (own ++ front_with (placed_front places rest) o)) [
        | None ↦ λ q. subst (λ (xs : List ℕ). Part graph args node here start now xs) (sym (no_more own)) p
        | Some id ↦ λ q.
            let x = placed a id q in
            let d = get_dropped here.args (length own) a rest e in
            let longer_part = part_more node here start now now own a id x.0 p itself d.0 x.1 x.2 in
            let behind : drop (length (own ++ id ∷ [])) here.args ≡ rest = ap (λ n. drop n here.args) (longer own id) ∙ d.1 in
            subst (λ (xs : List ℕ). Part graph args node here start now xs) (append_assoc own (id ∷ []) (placed_front places rest))
            (part_pushed places node here start now rest (own ++ id ∷ []) placed itself behind longer_part)
      ] refl

  pub front_within : (places : List (Option ℕ)) (now : List Term) (rest : List ℕ) → ArePlaced graph args places now → All (λ i. i < length now) (placed_front places rest)
  front_within places now [] placed = All-nil (λ i. i < length now)
  front_within places now (a ∷ rest) placed =
      elim (place_of places a) as (λ o. place_of places a ≡ o → All (λ i. i < length now) (front_with (placed_front places rest) o)) [
        | None ↦ λ q. All-nil (λ i. i < length now)
        | Some id ↦ λ q. All-cons (λ i. i < length now) id (placed_front places rest) (placed a id q).3 (front_within places now rest placed)
      ] refl

-- the last of two lists
pub split : (xs ys : List ℕ) (n : ℕ) → n ≡ length ys → (drop (length (xs ++ ys) - n) (xs ++ ys) ≡ ys) × (take (length (xs ++ ys) - n) (xs ++ ys) ≡ xs)
split xs ys n e =
    let k : length (xs ++ ys) - n ≡ length xs = omega (arith, length-append xs ys, e) in
    (ap (λ m. drop m (xs ++ ys)) k ∙ drop_front xs ys, ap (λ m. take m (xs ++ ys)) k ∙ take_front xs ys)

module _ (graph : List Term) (args : Option (List ℕ)) (old : List Term) (root : ℕ) where
  -- a number for a node changes nothing below it
  waiting_set : (places : List (Option ℕ)) (v id : ℕ) (vs : List Visit) (start : List Term) (numbers : List ℕ) (node : ℕ) → Waiting graph args old root places vs start numbers node → v ≤ node → Waiting graph args old root (set places v (Some id)) vs start numbers node
  waiting_set places v id [] start numbers node h l = h
  waiting_set places v id (w ∷ ws) start numbers node (here, s, b, o, e, r, more) l = (
    here,
    s,
    b,
    o,
    e,
    record {
      part = r.part;
      itself = r.itself;
      next = r.next;
      child = r.child;
      below = r.below;
      unplaced = get_or-set_other places v w.node (Some id) None (λ q. omega (arith, q, l, r.below)) ∙ r.unplaced;
    },
    waiting_set places v id ws s b w.node more (omega (arith, l, r.below)),
  )

  -- fewer nodes wait than there are numbers up to the root
  pub waiting_depth : (places : List (Option ℕ)) (vs : List Visit) (start : List Term) (numbers : List ℕ) (node : ℕ) → Waiting graph args old root places vs start numbers node → length vs + node ≤ root
  waiting_depth places [] start numbers node h = omega (arith, h.2)
  waiting_depth places (w ∷ ws) start numbers node (here, s, b, o, e, r, more) =
      let deeper : length ws + w.node ≤ root = waiting_depth places ws s b w.node more in
      omega (arith, deeper, r.below)

  -- a node is laid out: the one that waits for it goes on
  goes_on : (places : List (Option ℕ)) (v id : ℕ) (f : Formula) (vs : List Visit) (start new : List Term) (before : List ℕ) → Waiting graph args old root places vs start before v → Stands graph v f → Lays args f start new id → Walking graph args old root (set places v (Some id)) vs new (before ++ id ∷ [])
  goes_on places v id f [] start new before h s x = (
    id,
    f,
    ap (λ xs. xs ++ id ∷ []) h.1,
    subst (λ n. Stands graph n f) h.2 s,
    subst (λ (ts : List Term). Lays args f ts new id) h.0 x,
  )
  goes_on places v id f (w ∷ ws) start new before (here, t, b, o, e, r, more) s x = (
    here,
    t,
    b,
    o ++ id ∷ [],
    ap (λ xs. xs ++ id ∷ []) e ∙ append_assoc b o (id ∷ []),
    part_more graph args w.node here t start new o v id f r.part r.itself r.child s x,
    r.next ∙ sym (longer o id),
    get_or-set_other places v w.node (Some id) None (λ q. omega (arith, q, r.below)) ∙ r.unplaced,
    waiting_set places v id ws t b w.node more (omega (arith, r.below)),
  )

  placed_more : (places : List (Option ℕ)) (v id : ℕ) (f : Formula) (now start new : List Term) → ArePlaced graph args places now → Extends now new → v < length places → Stands graph v f → Lays args f start new id → id < length new → ArePlaced graph args (set places v (Some id)) new
  placed_more places v id f now start new placed more l s x k u n h = elim (cases_eq u v) [
    | inl p ↦
        let here : place_of (set places v (Some id)) v ≡ Some id = get_or-set_same places v (Some id) None l in
        let there : place_of (set places v (Some id)) v ≡ Some n = subst (λ m. place_of (set places v (Some id)) m ≡ Some n) p h in
        let same : id ≡ n = (let q : Some id ≡ Some n = sym here ∙ there in cc) in
        (f, subst (λ m. Stands graph m f) (sym p) s, subst (λ m. Lays args f new new m) same (lays_again args f start new new id (extends_same new new refl) x), omega (arith, same, k))
    | inr p ↦
        let was : place_of places u ≡ Some n = sym (get_or-set_other places v u (Some id) None p) ∙ h in
        let y = placed u n was in
        (y.0, y.1, lays_again args y.0 now now new n more y.2, (let less : length now ≤ length new = extended_length now new more in omega (arith, less, y.3)))
  ]

  terms_more : (ids : Option (List ℕ)) (now new : List Term) → Extends now new → AreTerms ids now → AreTerms ids new
  terms_more None now new e h = tt
  terms_more (Some ids) now new e h = All-weaker (λ a. a < length now) (λ a. a < length new) (λ a l. (let less : length now ≤ length new = extended_length now new e in omega (arith, less, l))) ids h

  fewer_open : (places : List (Option ℕ)) (v id : ℕ) → v < length places → place_of places v ≡ None → open_places (set places v (Some id)) + 1 ≡ open_places places
  fewer_open places v id l q =
      let was : open_place (place_of places v) ≡ 1 = ap open_place q in
      omega (arith, sum_by-set open_place places v (Some id) None l, was)

  -- a node is laid out
  pub ended : (places : List (Option ℕ)) (v : Visit) (vs : List Visit) (now start new : List Term) (numbers before : List ℕ) (id : ℕ) (f : Formula) → IsWalk graph args old root places (v ∷ vs) now numbers → Waiting graph args old root places vs start before v.node → All (λ a. a < length now) before → place_of places v.node ≡ None → v.node < length graph → Stands graph v.node f → Lays args f start new id → Extends now new → id < length new → IsWalk graph args old root (set places v.node (Some id)) vs new (before ++ id ∷ []) × (left (set places v.node (Some id)) root (length vs) < left places root (suc (length vs)))
  ended places v vs now start new numbers before id f w waiting within unplaced node s x more k =
      let room : length graph ≤ length places = w.room in
      let fewer = fewer_open places v.node id (omega (arith, room, node)) unplaced in (
        record {
          walking = goes_on places v.node id f vs start new before waiting s x;
          placed = placed_more places v.node id f now start new w.placed more (omega (arith, room, node)) s x k;
          within = All-append (λ a. a < length new) before (id ∷ []) (All-weaker (λ a. a < length now) (λ a. a < length new) (λ a l. (let less : length now ≤ length new = extended_length now new more in omega (arith, less, l))) before within)
              (All-cons (λ a. a < length new) id [] k (All-nil (λ a. a < length new)));
          terms = terms_more args now new more w.terms;
          grown = extends_trans old now new w.grown more;
          room = omega (arith, room, length-set places v.node (Some id));
        },
        omega (arith, fewer),
      )
