-- Renumbered trees.
use Rattle.std.specs.Prelude.{◌≡◌, ℕ, ℤ, zero, suc, pos, negsuc, ◌+◌, ◌<◌, ◌≤◌, Bool, true, false, ◌==◌, if◌then◌else◌, List, [], ◌∷◌, ◌++◌, length, map, drop, replicate, Option, Some, None, slice_index_or, slice_set}
use Rattle.std.proofs.Common.{refl, ap, sym, ◌∙◌, subst, get_or, arith}
use Rattle.std.proofs.lemmas.List.{get_or-set_other, drop_all}
use Rattle.std.proofs.lemmas.Bool.{eqb-true, eqb-false}
use Rattle.terms.specs.declared.term.Term.{Term}
use Rattle.terms.specs.declared.term.Kind.{Kind}
use Rattle.terms.specs.Formula.{Formula, Formulas, Node, Stop, With}
use Rattle.conditions.specs.Formulas.{row, is_constant}
use Rattle.conditions.specs.Quantified.{place_from, place_number, renumber, renumber_all}
use Rattle.condition_formulas.specs.Standing.{StandsAs, StandAll, Later}
use Rattle.condition_formulas.proofs.Rows.{at, as_long}
use Rattle.condition_formulas.proofs.Nodes.{one_tree}
use Rattle.condition_formulas.proofs.Walks.{Opened}
use Rattle.annotation_scenes.proofs.Done.{Done, done_first, done_next, done_last}
use Rattle.quantified_formulas.specs.Renumbering.{index_by_place, Renumbered, AreRenumbered}

-- Places.

pub place_here : (i n : ℕ) (ms : List ℕ) (k m : ℕ) → k < length ms → m ≡ get_or ms k 0 → (n == m) ≡ true → place_from i n (drop k ms) ≡ i
place_here i n [] k m below is e = absurd (omega arith)
place_here i n (x ∷ xs) zero m below is e = ap (λ (b : Bool). if b then i else place_from (suc i) n xs) (ap (λ y. n == y) (sym is) ∙ e)
place_here i n (x ∷ xs) (suc k) m below is e = place_here i n xs k m (omega arith) is e

pub place_later : (i n : ℕ) (ms : List ℕ) (k m : ℕ) → k < length ms → m ≡ get_or ms k 0 → (n == m) ≡ false → place_from i n (drop k ms) ≡ place_from (suc i) n (drop (suc k) ms)
place_later i n [] k m below is e = absurd (omega arith)
place_later i n (x ∷ xs) zero m below is e = ap (λ (b : Bool). if b then i else place_from (suc i) n xs) (ap (λ y. n == y) (sym is) ∙ e)
place_later i n (x ∷ xs) (suc k) m below is e = place_later i n xs k m (omega arith) is e

-- Nodes.

row_renumbered : (ms : List ℕ) (fs : List Formula) → renumber_all ms (row fs) ≡ row (map (renumber ms) fs)
row_renumbered ms [] = refl
row_renumbered ms (f ∷ fs) = ap (λ (gs : Formulas). With (renumber ms f) gs) (row_renumbered ms fs)

-- a node's tree renumbered
pub node_renumbered : {ts : List Term} {t : Term} {f : Formula} (ms : List ℕ) → (o : Opened ts t f) → renumber ms f ≡ Node t.kind (index_by_place ms t.kind t.index) (row (map (renumber ms) o.parts))
node_renumbered {t = t} ms o =
    ap (renumber ms) o.is ∙ ap (λ (gs : Formulas). Node t.kind (index_by_place ms t.kind t.index) gs) (row_renumbered ms o.parts)

-- the node made of a node's renumbered parts
pub made_node : {ts new : List Term} {t : Term} {f : Formula} (ms : List ℕ) {id : ℕ} {n : ℤ} → (o : Opened ts t f) → n ≡ index_by_place ms t.kind t.index → StandsAs new id (Node t.kind n (row (map (renumber ms) o.parts))) → StandsAs new id (renumber ms f)
made_node {new = new} {t} ms {id} o e stands =
    subst (λ (g : Formula). StandsAs new id g) (ap (λ (z : ℤ). Node t.kind z (row (map (renumber ms) o.parts))) e ∙ sym (node_renumbered ms o)) stands

-- What is known.

pub renumbered_later : {old new : List Term} {ms : List ℕ} {known : List (Option ℕ)} → Later old new → AreRenumbered old ms known → AreRenumbered new ms known
renumbered_later later are = record {
  at = λ id n is. let r = are.at id n is in record { tree = r.tree; before = later _ _ r.before; behind = later _ _ r.behind };
}

-- what is known of a node is so of its tree
pub as_known : {ts : List Term} {ms : List ℕ} {known : List (Option ℕ)} (id n : ℕ) (f : Formula) → AreRenumbered ts ms known → slice_index_or known id None ≡ Some n → StandsAs ts id f → StandsAs ts n (renumber ms f)
as_known {ts} {ms} id n f are is here =
    let r = are.at id n is in
    subst (λ (g : Formula). StandsAs ts n (renumber ms g)) (one_tree ts id r.tree f r.before.tree here.tree) r.behind

noted : (known : List (Option ℕ)) (id new n : ℕ) → slice_index_or (slice_set known id (Some new)) id None ≡ Some n → new ≡ n
noted [] id new n e = cc
noted (x ∷ xs) zero new n e = cc
noted (x ∷ xs) (suc id) new n e = noted xs id new n e

-- one more is known
pub known_more : {ts : List Term} {ms : List ℕ} {known : List (Option ℕ)} (id new : ℕ) (f : Formula) → StandsAs ts id f → StandsAs ts new (renumber ms f) → AreRenumbered ts ms known → AreRenumbered ts ms (slice_set known id (Some new))
known_more {ts} {ms} {known} id new f before behind are = record { at = λ k n is. by_place k n (k == id) refl is } where
  by_place : (k n : ℕ) (b : Bool) → (k == id) ≡ b → slice_index_or (slice_set known id (Some new)) k None ≡ Some n → Renumbered ts ms k n
  by_place k n true e is =
      let same : k ≡ id = eqb-true k id e in
      let value : new ≡ n = noted known id new n (subst (λ (j : ℕ). slice_index_or (slice_set known id (Some new)) j None ≡ Some n) same is) in
      record {
        tree = f;
        before = subst (λ (j : ℕ). StandsAs ts j f) (sym same) before;
        behind = subst (λ (j : ℕ). StandsAs ts j (renumber ms f)) value behind;
      }
  by_place k n false e is = are.at k n (sym (get_or-set_other known id k (Some new) None (eqb-false k id e)) ∙ is)

-- nothing is known
pub none_known : (ts : List Term) (ms : List ℕ) (n : ℕ) → AreRenumbered ts ms (replicate n None)
none_known ts ms n = record { at = λ id new is. absurd (nowhere n id new is) } where
  nowhere : (n id new : ℕ) → slice_index_or (replicate n None) id None ≡ Some new → ⊥
  nowhere zero id new is = cc
  nowhere (suc n) zero new is = cc
  nowhere (suc n) (suc id) new is = nowhere n id new is

-- The loop over a node's arguments.
pub record Turn (ms : List ℕ) (known_before : List (Option ℕ)) (old new : List Term) (args made : List ℕ) (known : List (Option ℕ)) (i : ℕ) : Type 0 where
  pub later : Later old new
  pub goes : (fs : List Formula) → StandAll old args fs → AreRenumbered old ms known_before → Done new made (map (renumber ms) (drop i fs)) (map (renumber ms) fs) × AreRenumbered new ms known

pub turn_first : (ms : List ℕ) (known : List (Option ℕ)) (ts : List Term) (args : List ℕ) → Turn ms known ts ts args [] known 0
turn_first ms known ts args = record { later = λ n f is. is; goes = λ fs all are. (done_first ts (map (renumber ms) fs), are) }

pub turn_next : (ms : List ℕ) (known_before : List (Option ℕ)) (old mid new : List Term) (args made next : List ℕ) (known more : List (Option ℕ)) (i id arg : ℕ) → Turn ms known_before old mid args made known i → i < length args → arg ≡ get_or args i 0 → Later mid new → ((f : Formula) → StandsAs mid arg f → AreRenumbered mid ms known → StandsAs new id (renumber ms f)) → ((f : Formula) → StandsAs mid arg f → AreRenumbered mid ms known → AreRenumbered new ms more) → next ≡ made ++ id ∷ [] → Turn ms known_before old new args next more (i + 1)
turn_next ms known_before old mid new args made next known more i id arg turn below is later made_one known_one e = record {
  later = λ n f h. later n f (turn.later n f h);
  goes = λ fs all are.
      let here = at i all below in
      let so_far = turn.goes fs all are in
      let stands : StandsAs mid arg here.tree = subst (λ (j : ℕ). StandsAs mid j here.tree) (sym is) (turn.later _ _ here.here) in (
        done_next so_far.0 (ap (map (renumber ms)) here.is) later (made_one here.tree stands so_far.1) e,
        known_one here.tree stands so_far.1,
      );
}

pub turn_last : {ms : List ℕ} {known_before : List (Option ℕ)} {old new : List Term} {args made : List ℕ} {known : List (Option ℕ)} {i : ℕ} → Turn ms known_before old new args made known i → length args ≤ i → (fs : List Formula) → StandAll old args fs → AreRenumbered old ms known_before → StandAll new made (map (renumber ms) fs) × AreRenumbered new ms known
turn_last {ms = ms} {i = i} turn end fs all are =
    let so_far = turn.goes fs all are in
    (done_last so_far.0 (ap (map (renumber ms)) (drop_all i fs (omega (arith, as_long all)))), so_far.1)
