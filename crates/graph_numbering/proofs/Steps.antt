-- What a step of a walk comes to.
use Rattle.std.proofs.Common.{◌≡◌, ℕ, suc, ℤ, pos, negsuc, ◌+◌, ◌-◌, ◌<◌, ◌≤◌, true, false, List, [], ◌∷◌, ◌++◌, length, get_or, set, take, drop, reverse, All, Option, None, Some, slice_get, cond, refl, ap, sym, ◌∙◌, subst, arith, append_assoc, length-append}
use Rattle.std.proofs.lemmas.List.{length-take, reverse-append}
use Rattle.std.proofs.lemmas.List.Elements.{All-append, All-get_or, All-take, All-nil}
use Rattle.std.proofs.lemmas.Option.{slice_get_within, slice_get-get_or, get_or_from_slice_get}
use Rattle.terms.specs.declared.term.Term.{Term}
use Rattle.terms.specs.declared.term.Kind.{Kind}
use Rattle.terms.specs.declared.term.Kind.TheVariants as k
use Rattle.terms.specs.Formula.{Formulas, Stop, With, term, Interns, AllStand}
use Rattle.terms.proofs.Numbering.{Extends, interns_extends}
use Rattle.term_graph.specs.Graph.{IsGraph}
use Rattle.graph_numbering.specs.declared.walk.Visit.{Visit}
use Rattle.graph_numbering.specs.declared.layout.Layout.{Layout}
use Rattle.graph_numbering.specs.declared.layout.Layout.TheVariants.{Itself, Given, Null}
use Rattle.graph_numbering.specs.Layout.{is_constant, given, argument, layout_of, LaysAs, AllLays}
use Rattle.graph_numbering.specs.Places.{place_of}
use Rattle.graph_numbering.specs.Walk.{placed_front, Part, Waiting, AreTerms, IsWalk, Step}
use Rattle.graph_numbering.proofs.Laid.{extends_same, tree_of, node_at}
use Rattle.graph_numbering.proofs.Fronts.{front_open}
use Rattle.graph_numbering.proofs.Walks.{part_fresh, part_whole, constant_first, constant_laid, part_pushed, front_within, split, take_front, waiting_depth, no_more, ended}

some_same : {X : Type 0} (x y : X) → Some x ≡ Some y → x ≡ y
some_same x y h = cc

-- an argument is the number of a term
given_found : (ids : List ℕ) (now : List Term) (n id : ℕ) → All (λ a. a < length now) ids → given (slice_get ids n) ≡ Given id → id < length now
given_found ids now n id all h =
    elim (slice_get ids n) as (λ o. slice_get ids n ≡ o → given o ≡ Given id → id < length now) [
      | None ↦ λ q e. absurd (let no : Null ≡ Given id = e in cc)
      | Some a ↦ λ q e.
          let same : a ≡ id = (let both : Given a ≡ Given id = e in cc) in
          let here : a ≡ get_or ids n a = sym (get_or_from_slice_get ids n a a q) in
          subst (λ (i : ℕ). i < length now) (sym here ∙ same) (All-get_or (λ a. a < length now) ids n a (slice_get_within ids n a q) all)
    ] refl h

argument_within : (ids : List ℕ) (now : List Term) (n : ℤ) (id : ℕ) → All (λ a. a < length now) ids → argument ids n ≡ Given id → id < length now
argument_within ids now (pos n) id all h = given_found ids now n id all h
argument_within ids now (negsuc n) id all h = absurd (cc)

given_within : (args : Option (List ℕ)) (now : List Term) (kind : Kind) (n : ℤ) (id : ℕ) → AreTerms args now → layout_of args kind n ≡ Given id → id < length now
given_within None now kind n id all h = absurd (let no : Itself ≡ Given id = h in cc)
given_within (Some ids) now kind n id all h =
    elim (is_constant kind) as (λ b. cond b (argument ids n) Itself ≡ Given id → id < length now) [
      | true ↦ λ e. argument_within ids now n id all e
      | false ↦ λ e. absurd (let no : Itself ≡ Given id = e in cc)
    ] h

-- a list's front
all_front : (now : List Term) (xs ys : List ℕ) → All (λ a. a < length now) (xs ++ ys) → All (λ a. a < length now) xs
all_front now xs ys h = subst (λ (zs : List ℕ). All (λ a. a < length now) zs) (take_front xs ys) (All-take (λ a. a < length now) (length xs) (xs ++ ys) h)

-- there are as many numbers as trees
same_count : (ts : List Term) (args : Option (List ℕ)) (fs : Formulas) (ids : List ℕ) (old new : List Term) (numbers : List ℕ) → AllStand ts ids fs → AllLays args fs old new numbers → length ids ≡ length numbers
same_count ts args Stop ids old new numbers s l = ap length s ∙ sym (ap length l.1)
same_count ts args (With f fs) ids old new numbers (a, rest, e, s, all) (mid, b, more, x, y, q) =
    ap length e ∙ ap suc (same_count ts args fs rest mid new more all y) ∙ sym (ap length q)

moved : (graph : List Term) (args : Option (List ℕ)) (old : List Term) (root : ℕ) (places after next : List (Option ℕ)) (vs more others : List Visit) (now : List Term) (numbers same : List ℕ) → Step graph args old root places after vs more now numbers → next ≡ after → others ≡ more → same ≡ numbers → Step graph args old root places next vs others now same
moved graph args old root places after next vs more others now numbers same s p q r =
    subst (λ (z : List (Option ℕ)). Step graph args old root places z vs others now same) (sym p)
    (subst (λ (z : List Visit). Step graph args old root places after vs z now same) (sym q)
    (subst (λ (z : List ℕ). Step graph args old root places after vs more now z) (sym r) s))

pub popped : (xs ys : List Visit) (v : Visit) → xs ≡ ys ++ v ∷ [] → reverse xs ≡ v ∷ reverse ys
popped xs ys v e = ap reverse e ∙ reverse-append ys (v ∷ [])

module _ (graph : List Term) (args : Option (List ℕ)) (old : List Term) (root : ℕ) (places : List (Option ℕ)) (v : Visit) (vs : List Visit) (now : List Term) (numbers : List ℕ) where
  -- the node is one of the graph
  pub visit_within : IsWalk graph args old root places (v ∷ vs) now numbers → v.node < length graph
  visit_within w = let here = w.walking in slice_get_within graph v.node here.0 here.5.at

  pub visit_room : IsWalk graph args old root places (v ∷ vs) now numbers → v.node < length places
  visit_room w = let l = visit_within w in omega (arith, l, w.room)

  module _ (t : Term) (at : slice_get graph v.node ≡ Some t) where
    -- an argument is laid out for the node, or NULL
    constant_step : (l : Layout) (new : List Term) (id : ℕ) → IsGraph graph → IsWalk graph args old root places (v ∷ vs) now numbers → layout_of args t.kind t.index ≡ l → (l ≡ Itself → ⊥) → ((own : Type 0) → LaysAs l own now new id) → Extends now new → id < length new → Step graph args old root places (set places v.node (Some id)) vs vs new (numbers ++ id ∷ [])
    constant_step l new id g w e other laid more within =
        let (here, start, before, own, split_at, part, next, unplaced, waiting) = w.walking in
        let same : t ≡ here = some_same t here (sym at ∙ part.at) in
        let kind : layout_of args here.kind here.index ≡ l = ap (λ (u : Term). layout_of args u.kind u.index) (sym same) ∙ e in
        let none = constant_first graph args v.node here start now own part (λ q. other (sym kind ∙ q)) in
        let tree = tree_of graph v.node g (slice_get_within graph v.node t at) in
        let all : numbers ≡ before = split_at ∙ ap (λ xs. before ++ xs) none.0 ∙ no_more before in
        let lays = constant_laid graph args v.node here tree.0 l start new id part.at tree.1 kind (λ x. subst (λ (ts : List Term). LaysAs l x ts new id) none.1 (laid x)) in
        let done = ended graph args old root places v vs now start new numbers before id tree.0 w waiting
        (subst (λ (xs : List ℕ). All (λ a. a < length now) xs) all w.within) unplaced (slice_get_within graph v.node t at) tree.1 lays more within in
        record {
          walk = subst (λ (xs : List ℕ). IsWalk graph args old root (set places v.node (Some id)) vs new (xs ++ id ∷ [])) (sym all) done.0;
          less = done.1;
        }

    pub given_step : (id : ℕ) → IsGraph graph → IsWalk graph args old root places (v ∷ vs) now numbers → layout_of args t.kind t.index ≡ Given id → Step graph args old root places (set places v.node (Some id)) vs vs now (numbers ++ id ∷ [])
    given_step id g w e =
        constant_step (Given id) now id g w e (λ q. absurd (cc)) (λ own. (refl, refl)) (extends_same now now refl) (given_within args now t.kind t.index id w.terms e)

    pub null_step : (new : List Term) (id : ℕ) → IsGraph graph → IsWalk graph args old root places (v ∷ vs) now numbers → layout_of args t.kind t.index ≡ Null → Interns now (term k.Null (pos 0) []) new id → id < length new → Step graph args old root places (set places v.node (Some id)) vs vs new (numbers ++ id ∷ [])
    null_step new id g w e i within =
        constant_step Null new id g w e (λ q. absurd (cc)) (λ own. i) (interns_extends now new (term k.Null (pos 0) []) id i) within

    -- the arguments that have numbers are pushed
    pub pushed_within : (front : List ℕ) → front ≡ placed_front places (drop v.next t.args) → IsWalk graph args old root places (v ∷ vs) now numbers → All (λ a. a < length now) (numbers ++ front)
    pushed_within front e w =
        All-append (λ a. a < length now) numbers front w.within
        (subst (λ (xs : List ℕ). All (λ a. a < length now) xs) (sym e) (front_within graph args places now (drop v.next t.args) w.placed))

    -- what is pushed are numbers of arguments, behind those of the nodes below
    Pushed : List ℕ → ℕ → Type 0
    Pushed front next = (start : List Term) × (before : List ℕ) × (own : List ℕ) × (numbers ++ front ≡ before ++ own) × Part graph args v.node t start now own × (next ≡ length own) × (place_of places v.node ≡ None) × Waiting graph args old root places vs start before v.node × All (λ a. a < length now) before

    left_within : (before own : List ℕ) → numbers ≡ before ++ own → All (λ a. a < length now) numbers → All (λ a. a < length now) before
    left_within before own e h = all_front now before own (subst (λ (xs : List ℕ). All (λ a. a < length now) xs) e h)

    pushed_part : (front : List ℕ) (next : ℕ) → front ≡ placed_front places (drop v.next t.args) → next ≡ v.next + length front → IsWalk graph args old root places (v ∷ vs) now numbers → layout_of args t.kind t.index ≡ Itself → Pushed front next
    unfolding Pushed
    pushed_part front next e n w itself =
        let (here, start, before, own, split_at, part, count, unplaced, waiting) = w.walking in
        let same : here ≡ t = some_same here t (sym part.at ∙ at) in
        let mine : Part graph args v.node t start now own = subst (λ (u : Term). Part graph args v.node u start now own) same part in
        let more = part_pushed graph args places v.node t start now (drop v.next t.args) own w.placed itself (ap (λ m. drop m t.args) (sym count)) mine in
        (start, before, own ++ front, ap (λ xs. xs ++ front) split_at ∙ append_assoc before own front, subst (λ (xs : List ℕ). Part graph args v.node t start now (own ++ xs)) (sym e) more, omega (arith, n, count, length-append own front), unplaced, waiting, left_within before own split_at w.within)

    part_few : (start : List Term) (own : List ℕ) → Part graph args v.node t start now own → length own ≤ length t.args
    part_few start own p =
        let count : length (take (length own) t.args) ≡ length own = same_count graph args p.trees (take (length own) t.args) start now own p.stand p.laid in
        omega (arith, count, length-take (length own) t.args)

    -- the node waits for the argument behind
    descend_step : (front : List ℕ) (next : ℕ) (waiting child : Visit) → front ≡ placed_front places (drop v.next t.args) → next ≡ v.next + length front → next < length t.args → waiting ≡ record { node = v.node; next = next + 1 } → child ≡ record { node = get_or t.args next 0; next = 0 } → All (λ a. a < v.node) t.args → IsWalk graph args old root places (v ∷ vs) now numbers → layout_of args t.kind t.index ≡ Itself → Step graph args old root places places vs (child ∷ waiting ∷ vs) now (numbers ++ front)
    unfolding Pushed
    descend_step front next waiting child e n l wait sub below w itself =
        let (start, before, own, split_at, part, count, unplaced, rest, within) = pushed_part front next e n w itself in
        let got : slice_get t.args next ≡ Some (get_or t.args next 0) = slice_get-get_or t.args next 0 l in
        let name : child.node ≡ get_or t.args next 0 = ap (λ (u : Visit). u.node) sub in
        let first : child.next ≡ 0 = ap (λ (u : Visit). u.next) sub in
        let under : get_or t.args next 0 < v.node = All-get_or (λ a. a < v.node) t.args next 0 l below in
        let lower : child.node < v.node = omega (arith, name, under) in
        let own_node : waiting.node ≡ v.node = ap (λ (u : Visit). u.node) wait in
        let own_next : waiting.next ≡ next + 1 = ap (λ (u : Visit). u.next) wait in
        let inside : v.node < length graph = slice_get_within graph v.node t at in
        let there = node_at graph child.node (omega (arith, lower, inside)) in
        let open_child : place_of places child.node ≡ None = ap (λ m. place_of places m) name ∙ front_open places t.args v.next next (get_or t.args next 0) (n ∙ ap (λ xs. v.next + length xs) e) got in
        let depth = waiting_depth graph args old root places vs start before v.node rest in
        record {
          walk = record {
            walking = (
              there.0,
              now,
              numbers ++ front,
              [],
              sym (no_more (numbers ++ front)),
              part_fresh graph args child.node there.0 now there.1,
              first,
              open_child,
              (
                t,
                start,
                before,
                own,
                split_at,
                record {
                  part = subst (λ m. Part graph args m t start now own) (sym own_node) part;
                  itself = itself;
                  next = omega (arith, own_next, count);
                  child = ap (λ m. slice_get t.args m) (sym count) ∙ got ∙ ap Some (sym name);
                  below = omega (arith, lower, own_node);
                  unplaced = ap (λ m. place_of places m) own_node ∙ unplaced;
                },
                subst (λ m. Waiting graph args old root places vs start before m) (sym own_node) rest,
              ),
            );
            placed = w.placed;
            within = pushed_within front e w;
            terms = w.terms;
            grown = w.grown;
            room = w.room;
          };
          less = omega (arith, depth, lower);
        }

    pub descended : (items pushed after : List Visit) (front same all : List ℕ) (next : ℕ) (waiting child : Visit) → vs ≡ reverse items → front ≡ placed_front places (drop v.next t.args) → next ≡ v.next + length front → next < length t.args → waiting ≡ record { node = v.node; next = next + 1 } → child ≡ record { node = get_or t.args next 0; next = 0 } → All (λ a. a < v.node) t.args → IsWalk graph args old root places (v ∷ vs) now numbers → layout_of args t.kind t.index ≡ Itself → after ≡ (pushed ++ waiting ∷ []) ++ child ∷ [] → pushed ≡ items → all ≡ same → same ≡ numbers ++ front → Step graph args old root places places vs (reverse after) now all
    descended items pushed after front same all next waiting child v_is e n l wait sub below w itself q r s u =
        let more : reverse after ≡ child ∷ waiting ∷ vs = popped after (pushed ++ waiting ∷ []) child q ∙ ap (λ (xs : List Visit). child ∷ xs) (popped (pushed ++ waiting ∷ []) pushed waiting refl ∙ ap (λ (xs : List Visit). waiting ∷ reverse xs) r ∙ ap (λ (xs : List Visit). waiting ∷ xs) (sym v_is)) in
        moved graph args old root places places places vs (child ∷ waiting ∷ vs) (reverse after) now (numbers ++ front) all (descend_step front next waiting child e n l wait sub below w itself) refl more (s ∙ u)

    -- all arguments are laid out, and so is the node
    pub whole_step : (front pushed : List ℕ) (next : ℕ) (new : List Term) (id : ℕ) → front ≡ placed_front places (drop v.next t.args) → next ≡ v.next + length front → length t.args ≤ next → IsWalk graph args old root places (v ∷ vs) now numbers → layout_of args t.kind t.index ≡ Itself → pushed ≡ numbers ++ front → Interns now (term t.kind t.index (drop (length pushed - length t.args) pushed)) new id → id < length new → Step graph args old root places (set places v.node (Some id)) vs vs new (take (length pushed - length t.args) pushed ++ id ∷ [])
    unfolding Pushed
    whole_step front pushed next new id e n l w itself all i k =
        let (start, before, own, split_at, part, count, unplaced, rest, within) = pushed_part front next e n w itself in
        let few = part_few start own part in
        let size : length t.args ≡ length own = omega (arith, few, count, l) in
        let parts = split before own (length t.args) size in
        let mine : pushed ≡ before ++ own = all ∙ split_at in
        let behind : drop (length pushed - length t.args) pushed ≡ own = ap (λ xs. drop (length xs - length t.args) xs) mine ∙ parts.0 in
        let front_is : take (length pushed - length t.args) pushed ≡ before = ap (λ xs. take (length xs - length t.args) xs) mine ∙ parts.1 in
        let interned : Interns now (term t.kind t.index own) new id = subst (λ (xs : List ℕ). Interns now (term t.kind t.index xs) new id) behind i in
        let laid = part_whole graph args v.node t start now new own id part itself (sym size) interned in
        let done = ended graph args old root places v vs now start new numbers before id laid.0 w rest within unplaced (slice_get_within graph v.node t at) laid.1 laid.2 (interns_extends now new (term t.kind t.index own) id interned) k in
        record {
          walk = subst (λ (xs : List ℕ). IsWalk graph args old root (set places v.node (Some id)) vs new (xs ++ id ∷ [])) (sym front_is) done.0;
          less = done.1;
        }

    -- the last numbers are those of the node's arguments
    pub pushed_own : (front pushed : List ℕ) (next : ℕ) → front ≡ placed_front places (drop v.next t.args) → next ≡ v.next + length front → length t.args ≤ next → IsWalk graph args old root places (v ∷ vs) now numbers → layout_of args t.kind t.index ≡ Itself → pushed ≡ numbers ++ front → (start : List Term) × (before : List ℕ) × (own : List ℕ) × (drop (length pushed - length t.args) pushed ≡ own) × Part graph args v.node t start now own × (length own ≡ length t.args) × Waiting graph args old root places vs start before v.node
    unfolding Pushed
    pushed_own front pushed next e n l w itself all =
        let (start, before, own, split_at, part, count, unplaced, rest, within) = pushed_part front next e n w itself in
        let few = part_few start own part in
        let size : length t.args ≡ length own = omega (arith, few, count, l) in
        let parts = split before own (length t.args) size in
        (start, before, own, ap (λ xs. drop (length xs - length t.args) xs) (all ∙ split_at) ∙ parts.0, part, sym size, rest)

  -- the end of a visit, by what the stacks hold
  pub finished : (after : List (Option ℕ)) (new : List Term) (id : ℕ) (more : List Visit) (rest all : List ℕ) → Step graph args old root places (set places v.node (Some id)) vs vs new (rest ++ id ∷ []) → after ≡ set places v.node (Some id) → more ≡ vs → all ≡ rest ++ id ∷ [] → Step graph args old root places after vs more new all
  finished after new id more rest all s p q r = moved graph args old root places (set places v.node (Some id)) after vs vs more new (rest ++ id ∷ []) all s p q r

-- a walk begins at its root
pub begins : (graph : List Term) (args : Option (List ℕ)) (old : List Term) (root : ℕ) (places : List (Option ℕ)) (items : List Visit) (numbers : List ℕ) → root < length graph → AreTerms args old → length graph ≤ length places → ((n : ℕ) → place_of places n ≡ None) → items ≡ record { node = root; next = 0 } ∷ [] → numbers ≡ [] → IsWalk graph args old root places (reverse items) old numbers
begins graph args old root places items numbers inside terms room none e f =
    let there = node_at graph root inside in
    let first : Visit = record { node = root; next = 0 } in
    subst (λ (vs : List Visit). IsWalk graph args old root places vs old numbers) (sym (ap reverse e))
    (subst (λ (ns : List ℕ). IsWalk graph args old root places (first ∷ []) old ns) (sym f) (record {
      walking = (there.0, old, [], [], refl, part_fresh graph args root there.0 old there.1, refl, none root, (refl, refl, refl));
      placed = λ n id h. absurd (let no : None ≡ Some id = sym (none n) ∙ h in cc);
      within = All-nil (λ a. a < length old);
      terms = terms;
      grown = extends_same old old refl;
      room = room;
    }))
