-- What is held of conclusions, behind one more.
use Rattle.std.proofs.Common.{◌≡◌, ℕ, ◌+◌, ◌≤◌, ℤ, Bool, List, [], ◌∷◌, ◌++◌, length, take, Option, Some, None, slice_get, option_map, option_and_then, refl, ap, sym, ◌∙◌, subst, arith, append_assoc}
use Rattle.std.proofs.lemmas.List.{append-nil}
use Rattle.terms.specs.declared.term.Term.{Term}
use Rattle.terms.specs.declared.sort.Sort.{Sort}
use Rattle.terms.specs.Formula.{Formula, Node, Stands}
use Rattle.term_meaning.specs.Meaning.{Language}
use Rattle.condition_formulas.specs.Standing.{StandsAs, StandAll, Each, Later}
use Rattle.condition_formulas.proofs.Rows.{all_later, then_one, as_long, none, same_ids}
use Rattle.rule_instances.proofs.Places.{each_at}
use Rattle.conditions.specs.Numbering.{number}
use Rattle.cert_format.specs.Derivations.{Derivation}
use Rattle.cert_format.specs.declared.certificate.Step.{Step}
use Rattle.axiom_parameters.specs.Parameters.{term_numbers}
use Rattle.block_layout.specs.declared.space.Space.{Space}
use Rattle.block_layout.specs.Space.{IsSorted}
use Rattle.block_layout.specs.Trees.{named}
use Rattle.block_layout.specs.Layout.{IsNode}
use Rattle.block_layout.proofs.Lists.{take_all, take_next}
use Rattle.certificate_upgrade.specs.declared.conclusion.Conclusion.{Conclusion as HeldConclusion}
use Rattle.certificate_upgrade.specs.declared.conclusion.Conclusions.{Conclusions as HeldConclusions}
use Rattle.certificate_upgrade.specs.Conclusions.{Conclusion, or_empty, args_of, arg_marks, arg_trees, block_trees, conclusion, step_conclusions, steps_conclusions}
use Rattle.certificate_upgrade.specs.Held.{StandsFor, AllStandFor, AreConclusions, Marks, MarkEach, AreMarks, step_trees}
use Rattle.upgrade_blocks.specs.Trees.{own_then}
use Rattle.upgrade_blocks.proofs.Nodes.{each_node}

-- ---- several nodes, numbered one after the other

pub ids_first : (graph target : List Term) (roots ids : List ℕ) (fs : List Formula) → ids ≡ [] → StandAll target ids (take 0 fs)
ids_first graph target roots ids fs e = same_ids e none

pub ids_next : (graph old new : List Term) (roots ids more : List ℕ) (fs : List Formula) (i root id : ℕ) → slice_get roots i ≡ Some root → Later old new → ((f : Formula) → Stands graph root f → Stands new id f) → more ≡ ids ++ id ∷ [] → StandAll graph roots fs → StandAll old ids (take i fs) → StandAll new more (take (i + 1) fs)
ids_next graph old new roots ids more fs i root id at later stands e all front =
    let (f, here, is) = each_at graph roots fs i root all.each (sym at) in
    subst (λ (gs : List Formula). StandAll new more gs) (sym (take_next fs i f here)) (same_ids e (then_one (all_later later front) (record { tree = stands f is.tree })))

pub ids_end : (graph target : List Term) (roots ids : List ℕ) (fs : List Formula) (i : ℕ) → length roots ≤ i → StandAll graph roots fs → StandAll target ids (take i fs) → StandAll target ids fs
ids_end graph target roots ids fs i h all front =
    let long : length roots ≡ length fs = as_long all in
    subst (λ (gs : List Formula). StandAll target ids gs) (take_all fs i (omega (arith, long, h))) front

pub later_then : (a b c : List Term) → Later a b → Later b c → Later a c
later_then a b c p q = λ n f s. q n f (p n f s)

-- ---- the arguments of a step

-- numbers that name nodes name the trees that these are
abbrev BothNamed : List Term → Option (List ℕ) → Option (List Formula) → Type 0
BothNamed ts None None = Unit {0}
BothNamed ts None (Some fs) = ⊥
BothNamed ts (Some ids) None = ⊥
BothNamed ts (Some ids) (Some fs) = Each ts ids fs

one_named : (ts : List Term) (o : Option ℕ) (x : Option Formula) (p : Option (List ℕ)) (q : Option (List Formula)) → IsNode ts x o → BothNamed ts p q
    → BothNamed ts (option_and_then (λ id. option_map (λ more. id ∷ more) p) o) (option_and_then (λ f. option_map (λ more. f ∷ more) q) x)
one_named ts None None p q node both = tt
one_named ts None (Some f) p q node both = let e : Some f ≡ None = node in absurd (cc)
one_named ts (Some id) None p q (f, is, stands) both = let e : None ≡ Some f = is in absurd (cc)
one_named ts (Some id) (Some g) None None node both = tt
one_named ts (Some id) (Some g) None (Some fs) node both = absurd both
one_named ts (Some id) (Some g) (Some ids) None node both = absurd both
one_named ts (Some id) (Some g) (Some ids) (Some fs) (f, is, stands) both = let e : f ≡ g = some_is g f is in (subst (λ (h : Formula). StandsAs ts id h) e stands, both)
  where
    some_is : (g f : Formula) → Some g ≡ Some f → f ≡ g
    some_is g f h = cc

all_named : (ts : List Term) (names : List ℕ) (trees : List Formula) (ns : List ℕ) → Each ts names trees → BothNamed ts (named names ns) (named trees ns)
all_named ts names trees [] each = tt
all_named ts names trees (n ∷ ns) each = one_named ts (slice_get names n) (slice_get trees n) (named names ns) (named trees ns) (each_node ts names trees n each) (all_named ts names trees ns each)

or_empty_named : (ts : List Term) (p : Option (List ℕ)) (q : Option (List Formula)) → BothNamed ts p q → StandAll ts (or_empty p) (or_empty q)
or_empty_named ts None None both = none
or_empty_named ts None (Some fs) both = absurd both
or_empty_named ts (Some ids) None both = absurd both
or_empty_named ts (Some ids) (Some fs) both = record { each = both }

-- the nodes that a step's arguments name are their trees
pub args_stand : (l : Language) (ts : List Term) (names nodes args : List ℕ) (trees : List Formula) (marks : List Bool) (zs taken : List ℤ) → taken ≡ zs → args ≡ args_of taken → marks ≡ arg_marks l taken → nodes ≡ or_empty (named names (term_numbers marks args)) → StandAll ts names trees → StandAll ts nodes (arg_trees l trees zs)
args_stand l ts names nodes args trees marks zs taken e a m n all =
    let ns : term_numbers marks args ≡ term_numbers (arg_marks l zs) (args_of zs) =
    ap (λ (bs : List Bool). term_numbers bs args) (m ∙ ap (arg_marks l) e) ∙ ap (term_numbers (arg_marks l zs)) (a ∙ ap args_of e) in
    same_ids (n ∙ ap (λ (ms : List ℕ). or_empty (named names ms)) ns)
    (or_empty_named ts (named names (term_numbers (arg_marks l zs) (args_of zs))) (named trees (term_numbers (arg_marks l zs) (args_of zs))) (all_named ts names trees (term_numbers (arg_marks l zs) (args_of zs)) all.each))

-- ---- one conclusion more

one_later : (l : Language) (old new : List Term) (h : HeldConclusion) (c : Conclusion) → Later old new → StandsFor l old h c → StandsFor l new h c
one_later l old new h c later k = record { tree = later h.tree c.tree k.tree; numbers = k.numbers; marks = k.marks; args = all_later later k.args }

all_hold : (l : Language) (old new : List Term) (hs : List HeldConclusion) (cs : List Conclusion) → Later old new → AllStandFor l old hs cs → AllStandFor l new hs cs
all_hold l old new [] [] later all = tt
all_hold l old new [] (c ∷ cs) later all = absurd all
all_hold l old new (h ∷ hs) [] later all = absurd all
all_hold l old new (h ∷ hs) (c ∷ cs) later all = (one_later l old new h c later all.0, all_hold l old new hs cs later all.1)

all_more : (l : Language) (ts : List Term) (hs : List HeldConclusion) (cs : List Conclusion) (h : HeldConclusion) (c : Conclusion) → AllStandFor l ts hs cs → StandsFor l ts h c → AllStandFor l ts (hs ++ h ∷ []) (cs ++ c ∷ [])
all_more l ts [] [] h c all one = (one, tt)
all_more l ts [] (d ∷ cs) h c all one = absurd all
all_more l ts (g ∷ hs) [] h c all one = absurd all
all_more l ts (g ∷ hs) (d ∷ cs) h c all one = (all.0, all_more l ts hs cs h c all.1 one)

pub one_held : (l : Language) (old new : HeldConclusions) (h : HeldConclusion) (cs : List Conclusion) (c : Conclusion) → Later old.graph new.graph → new.list.items ≡ old.list.items ++ h ∷ [] → StandsFor l new.graph h c → AreConclusions l old cs → AreConclusions l new (cs ++ c ∷ [])
one_held l old new h cs c later e one k = record {
  all = subst (λ (hs : List HeldConclusion). AllStandFor l new.graph hs (cs ++ c ∷ [])) (sym e) (all_more l new.graph old.list.items cs h c (all_hold l old.graph new.graph old.list.items cs later k.all) one);
}

-- ---- one step more

-- a step that concludes nothing
pub none_concluded : (l : Language) (trees : List Formula) (step : Step) (o : Option Formula) (h : HeldConclusions) (cs : List Conclusion) → o ≡ None → AreConclusions l h cs → AreConclusions l h (cs ++ step_conclusions l trees step o)
none_concluded l trees step o h cs e k =
    subst (λ (x : Option Formula). AreConclusions l h (cs ++ step_conclusions l trees step x)) (sym e) (subst (λ (ds : List Conclusion). AreConclusions l h ds) (sym (append-nil cs)) k)

pub none_marked : (ts : List Term) (o : Option Formula) → o ≡ None → Marks ts None o
none_marked ts o e = subst (λ (x : Option Formula). Marks ts None x) (sym e) tt

-- a step that concludes what the node is
pub one_concluded : (l : Language) (trees : List Formula) (step : Step) (o : Option Formula) (ts : List Term) (id : ℕ) (h : HeldConclusions) (cs : List Conclusion) → IsNode ts o (Some id) → ((f : Formula) → StandsAs ts id f → AreConclusions l h (cs ++ step_conclusions l trees step (Some f))) → AreConclusions l h (cs ++ step_conclusions l trees step o)
one_concluded l trees step o ts id h cs (f, is, stands) k = subst (λ (x : Option Formula). AreConclusions l h (cs ++ step_conclusions l trees step x)) (sym is) (k f stands)

pub one_marked : (ts us : List Term) (o : Option Formula) (id tree : ℕ) → IsNode ts o (Some id) → ((f : Formula) → StandsAs ts id f → StandsAs us tree f) → Marks us (Some tree) o
one_marked ts us o id tree (f, is, stands) k = subst (λ (x : Option Formula). Marks us (Some tree) x) (sym is) (k f stands)

-- ---- several steps

steps_more : (l : Language) (trees : List Formula) (steps : List Step) (step : Step) → steps_conclusions l trees (steps ++ step ∷ []) ≡ steps_conclusions l trees steps ++ step_conclusions l trees step (conclusion l trees step)
steps_more l trees [] step = append-nil (step_conclusions l trees step (conclusion l trees step))
steps_more l trees (s ∷ steps) step =
    ap (λ cs. step_conclusions l trees s (conclusion l trees s) ++ cs) (steps_more l trees steps step)
    ∙ sym (append_assoc (step_conclusions l trees s (conclusion l trees s)) (steps_conclusions l trees steps) (step_conclusions l trees step (conclusion l trees step)))

pub held_first : (l : Language) (trees : List Formula) (steps : List Step) (h : HeldConclusions) (cs : List Conclusion) → AreConclusions l h cs → AreConclusions l h (cs ++ steps_conclusions l trees (take 0 steps))
held_first l trees steps h cs k = subst (λ (ds : List Conclusion). AreConclusions l h ds) (sym (append-nil cs)) k

pub held_next : (l : Language) (trees : List Formula) (steps : List Step) (i : ℕ) (step : Step) (new : HeldConclusions) (cs : List Conclusion) → slice_get steps i ≡ Some step
    → AreConclusions l new ((cs ++ steps_conclusions l trees (take i steps)) ++ step_conclusions l trees step (conclusion l trees step)) → AreConclusions l new (cs ++ steps_conclusions l trees (take (i + 1) steps))
held_next l trees steps i step new cs at k =
    subst (λ (ds : List Conclusion). AreConclusions l new ds)
    (append_assoc cs (steps_conclusions l trees (take i steps)) (step_conclusions l trees step (conclusion l trees step))
    ∙ ap (λ ds. cs ++ ds) (sym (steps_more l trees (take i steps) step) ∙ ap (steps_conclusions l trees) (sym (take_next steps i step at)))) k

pub held_end : (l : Language) (trees : List Formula) (steps : List Step) (i : ℕ) (h : HeldConclusions) (cs : List Conclusion) → length steps ≤ i → AreConclusions l h (cs ++ steps_conclusions l trees (take i steps)) → AreConclusions l h (cs ++ steps_conclusions l trees steps)
held_end l trees steps i h cs end k = subst (λ (ss : List Step). AreConclusions l h (cs ++ steps_conclusions l trees ss)) (take_all steps i end) k

-- ---- the marks of steps

mark_later : (old new : List Term) (id : Option ℕ) (f : Option Formula) → Later old new → Marks old id f → Marks new id f
mark_later old new None None later m = tt
mark_later old new None (Some f) later m = absurd m
mark_later old new (Some id) None later m = absurd m
mark_later old new (Some id) (Some f) later m = later id f m

marks_later : (old new : List Term) (ids : List (Option ℕ)) (fs : List (Option Formula)) → Later old new → MarkEach old ids fs → MarkEach new ids fs
marks_later old new [] [] later m = tt
marks_later old new [] (f ∷ fs) later m = absurd m
marks_later old new (id ∷ ids) [] later m = absurd m
marks_later old new (id ∷ ids) (f ∷ fs) later m = (mark_later old new id f later m.0, marks_later old new ids fs later m.1)

marks_more : (ts : List Term) (ids : List (Option ℕ)) (fs : List (Option Formula)) (id : Option ℕ) (f : Option Formula) → MarkEach ts ids fs → Marks ts id f → MarkEach ts (ids ++ id ∷ []) (fs ++ f ∷ [])
marks_more ts [] [] id f m one = (one, tt)
marks_more ts [] (g ∷ fs) id f m one = absurd m
marks_more ts (i ∷ ids) [] id f m one = absurd m
marks_more ts (i ∷ ids) (g ∷ fs) id f m one = (m.0, marks_more ts ids fs id f m.1 one)

trees_more : (l : Language) (trees : List Formula) (steps : List Step) (step : Step) → step_trees l trees (steps ++ step ∷ []) ≡ step_trees l trees steps ++ conclusion l trees step ∷ []
trees_more l trees [] step = refl
trees_more l trees (s ∷ steps) step = ap (λ fs. conclusion l trees s ∷ fs) (trees_more l trees steps step)

pub marked_first : (l : Language) (trees : List Formula) (steps : List Step) (ts : List Term) (marks : List (Option ℕ)) → marks ≡ [] → AreMarks ts marks (step_trees l trees (take 0 steps))
marked_first l trees steps ts marks e = subst (λ (ids : List (Option ℕ)). AreMarks ts ids []) (sym e) (record { each = tt })

pub marked_next : (l : Language) (trees : List Formula) (steps : List Step) (i : ℕ) (step : Step) (old new : List Term) (marks more : List (Option ℕ)) (id : Option ℕ) → slice_get steps i ≡ Some step → Later old new → Marks new id (conclusion l trees step) → more ≡ marks ++ id ∷ []
    → AreMarks old marks (step_trees l trees (take i steps)) → AreMarks new more (step_trees l trees (take (i + 1) steps))
marked_next l trees steps i step old new marks more id at later one e k =
    let fs = step_trees l trees (take i steps) in
    subst (λ (gs : List (Option Formula)). AreMarks new more gs) (sym (trees_more l trees (take i steps) step) ∙ ap (step_trees l trees) (sym (take_next steps i step at)))
    (subst (λ (ids : List (Option ℕ)). AreMarks new ids (fs ++ conclusion l trees step ∷ [])) (sym e) (record { each = marks_more new marks fs id (conclusion l trees step) (marks_later old new marks fs later k.each) one }))

pub marked_end : (l : Language) (trees : List Formula) (steps : List Step) (i : ℕ) (ts : List Term) (marks : List (Option ℕ)) → length steps ≤ i → AreMarks ts marks (step_trees l trees (take i steps)) → AreMarks ts marks (step_trees l trees steps)
marked_end l trees steps i ts marks end k = subst (λ (ss : List Step). AreMarks ts marks (step_trees l trees ss)) (take_all steps i end) k

-- ---- a space with no nodes

no_node : (ts : List Term) (id : ℕ) (f : Formula) → ts ≡ [] → StandsAs ts id f → ⊥
no_node ts id f e s = nothing f (subst (λ (us : List Term). Stands us id f) e s.tree)
  where
    nothing : (f : Formula) → Stands [] id f → ⊥
    nothing (Node k n fs) (args, at, all) = cc

pub empty_sorted : (l : Language) (space : Space) → space.graph ≡ [] → space.sorts ≡ [] → IsSorted l space
empty_sorted l space graph sorts = record {
  many = ap length sorts ∙ sym (ap length graph);
  sort = λ id f s. absurd (no_node space.graph id f graph s);
  first = record { each = λ id sort at. (let e : None ≡ Some sort = sym (ap (λ (ss : List (Option Sort)). slice_get ss id) sorts) ∙ at in absurd (cc)) };
}

-- ---- a block

-- the trees of a block stand at its names
pub block_stands : (l : Language) (f : Formula) (own terms ts : List Term) (block : Derivation) (names seen : List ℕ) → own ≡ (number f []).terms → terms ≡ block.terms → seen ≡ names → StandAll ts names (or_empty (own_then l own terms)) → StandAll ts seen (block_trees l f block)
block_stands l f own terms ts block names seen o e n all =
    same_ids n (subst (λ (us : List Term). StandAll ts names (or_empty (own_then l us block.terms))) o (subst (λ (us : List Term). StandAll ts names (or_empty (own_then l own us))) e all))
