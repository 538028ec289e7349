-- The formulas of annotations, as rows take and fill them.
use Rattle.std.specs.Prelude.{◌≡◌, ◌<◌, ◌^◌, ℕ, ◌-◌, ℤ, Bool, true, false, MatchBool, List, [], ◌∷◌, ◌++◌, take, drop, length, map, Option, Some, None, option_map, slice_get}
use Rattle.std.proofs.Common.{refl, sym, ap, ◌∙◌, subst, Vec, Global}
use Rattle.std.proofs.lemmas.Option.{slice_get-map}
use Rattle.terms.specs.declared.sort.Sort.{Sort}
use Rattle.terms.specs.declared.term.Term.{Term}
use Rattle.terms.specs.Formula.{Formula, Stands, AllStand}
use Rattle.term_meaning.specs.Meaning.{Language, Quantified, quantified_sorts, invariant_of}
use Rattle.term_meaning.specs.Filling.{trees, fill}
use Rattle.axiom_instances.specs.Fitting.{Row, needs, number, terms, quantified}
use Rattle.axiom_instances.specs.Axioms.{conjunct_of}
use Rattle.condition_formulas.specs.Standing.{StandsAs, StandAll, Each, Later}
use Rattle.condition_formulas.proofs.Rows.{same_ids, as_long, later_is}
use Rattle.axiom_steps.specs.declared.steps.Step.{Step}
use Rattle.axiom_steps.specs.declared.steps.Step.TheVariants as s
use Rattle.axiom_steps.specs.Steps.{State, replace, top, run, at}
use Rattle.rule_instances.specs.declared.walk.State.{State as Code}
use Rattle.rule_instances.specs.declared.annotations.Annotation.{Annotation}
use Rattle.rule_instances.specs.Annotations.{IsAnnotation, IsBody}
use Rattle.rule_instances.specs.Columns.{seen}
use Rattle.rule_instances.specs.Reading.{Refuses, TakesNumber, TakesFormulas}
use Rattle.rule_instances.specs.Walking.{Matches, Goes, Stops, Went, HasFilled}
use Rattle.rule_instances.proofs.Going.{Kept, changed_terms}
use Rattle.rule_instances.proofs.Reading.{there, missing}
use Rattle.rule_instances.proofs.Replacing.{all_drop, replaced}

-- A quantified formula.
quantified_row : (l : Language) (tree : ℕ → Option Formula) (rest : List Step) (st : State) → ℕ → Formula → List Formula → Row
quantified_row l tree rest st n body ks = run l tree rest (record st { number = n; keys = ks; body = Some body })

holed : (l : Language) (tree : ℕ → Option Formula) (rest : List Step) (st : State) → ℕ → Quantified → Row
holed l tree rest st n q = terms l tree q.holes (quantified_row l tree rest st n q.body)

quantified_run : (l : Language) (tree : ℕ → Option Formula) (rest : List Step) (st : State) → run l tree (s.TakeQuantified ∷ rest) st ≡ number (λ n. needs (slice_get l.quantified n) (holed l tree rest st n))
unfolding quantified_row holed quantified
quantified_run l tree rest st = refl

pub no_quantified_number : {l : Language} {tree : ℕ → Option Formula} {old : List ℤ} {st : State} → Refuses number old → Stops l tree s.TakeQuantified old st
no_quantified_number {l} {tree} {old} {st} refused = record { none = λ rest. ap (λ (r : Row). at r old) (quantified_run l tree rest st) ∙ refused.none _ }

none_there : (qs : List Quantified) (n : ℕ) → slice_get (map (λ (q : Quantified). q.body) qs) n ≡ None → slice_get qs n ≡ None
none_there qs n e = by_option (slice_get qs n) (sym (slice_get-map (λ (q : Quantified). q.body) qs n) ∙ e)
  where
    by_option : (o : Option Quantified) → option_map (λ (q : Quantified). q.body) o ≡ None → o ≡ None
    by_option None e = refl
    by_option (Some q) e = absurd (cc)

pub no_quantified : {l : Language} {tree : ℕ → Option Formula} {old mid : List ℤ} {n : ℕ} {st : State} → TakesNumber old mid n → slice_get (map (λ (q : Quantified). q.body) l.quantified) n ≡ None → Stops l tree s.TakeQuantified old st
no_quantified {l} {tree} {old} {mid} {n} {st} taken e = record { none = λ rest. ap (λ (r : Row). at r old) (quantified_run l tree rest st) ∙ taken.takes.goes _ ∙ missing (holed l tree rest st n) (slice_get l.quantified n) (none_there l.quantified n e) mid }

-- the one with this number
pub record QuantifiedAt (l : Language) (n : ℕ) (a : Annotation) : Type 0 where
  pub it : Quantified
  pub there : slice_get l.quantified n ≡ Some it
  pub body : IsAnnotation a (Some it.body)

pub quantified_at : (l : Language) (n : ℕ) (a : Annotation) → IsAnnotation a (slice_get (map (λ (q : Quantified). q.body) l.quantified) n) → QuantifiedAt l n a
quantified_at l n a is = by_option (slice_get l.quantified n) refl (sym (slice_get-map (λ (q : Quantified). q.body) l.quantified n) ∙ is.is)
  where
    by_option : (o : Option Quantified) → slice_get l.quantified n ≡ o → option_map (λ (q : Quantified). q.body) o ≡ Some is.formula → QuantifiedAt l n a
    by_option None e none = absurd (cc)
    by_option (Some q) e some = record { it = q; there = e; body = record { formula = is.formula; is = some; stands = is.stands } }

pub holes_are : {q : Quantified} {all : List (List Sort)} {sorts : List Sort} (l : Language) (n : ℕ) → all ≡ quantified_sorts l → slice_get l.quantified n ≡ Some q → ((holes : List Sort) → slice_get all n ≡ Some holes → sorts ≡ holes) → sorts ≡ q.holes
holes_are {q} {all} l n same here of = of q.holes (ap (λ (xs : List (List Sort)). slice_get xs n) same ∙ slice_get-map (λ (x : Quantified). x.holes) l.quantified n ∙ ap (option_map (λ (x : Quantified). x.holes)) here)

pub no_holes : {l : Language} {tree : ℕ → Option Formula} {old mid : List ℤ} {n : ℕ} {st : State} {sorts : List Sort} {q : Quantified} → TakesNumber old mid n → slice_get l.quantified n ≡ Some q → sorts ≡ q.holes → Refuses (terms l tree sorts) mid → Stops l tree s.TakeQuantified old st
unfolding holed
no_holes {l} {tree} {old} {mid} {n} {st} {sorts} {q} taken e are refused = record {
  none = λ rest. ap (λ (r : Row). at r old) (quantified_run l tree rest st) ∙ taken.takes.goes _ ∙ there (holed l tree rest st n) (slice_get l.quantified n) q e mid ∙ ap (λ (ss : List Sort). at (terms l tree ss (quantified_row l tree rest st n q.body)) mid) (sym are) ∙ refused.none _;
}

-- what is as it was when a quantified formula is taken
pub record Quantifies (before after : Code) (n : ℕ) (ids : List ℕ) (a : Annotation) : Type 0 where
  pub terms : after.terms ≡ before.terms
  pub writes : after.writes ≡ before.writes
  pub ty : after.ty ≡ before.ty
  pub column : after.column ≡ before.column
  pub declared : after.declared ≡ before.declared
  pub number : after.number ≡ n
  pub keys : after.keys.items ≡ ids
  pub body : after.body ≡ Some a

pub go_quantified : {l : Language} {tree : ℕ → Option Formula} {ts : List Term} {before after : Code} {old mid new : List ℤ} {n : ℕ} {st : State} {sorts : List Sort} {ids : List ℕ} {a : Annotation} (q : Quantified) → Matches ts before st → TakesNumber old mid n → slice_get l.quantified n ≡ Some q → sorts ≡ q.holes → TakesFormulas (terms l tree sorts) ts mid new ids → IsAnnotation a (Some q.body) → Quantifies before after n ids a → Goes l tree s.TakeQuantified ts after old new st
unfolding quantified_row holed
go_quantified {l} {tree} {ts} {before} {after} {old} {mid} {new} {n} {st} {sorts} {ids} {a} q m taken e are all body p = record {
  next = record st { number = n; keys = all.formulas; body = Some q.body };
  matches = record {
    terms = subst (λ (v : Vec ℕ Global). StandAll ts v.items st.terms) (sym p.terms) m.terms;
    writes = subst (λ (v : Vec ℕ Global). StandAll ts v.items st.writes) (sym p.writes) m.writes;
    keys = same_ids p.keys all.stand;
    ty = p.ty ∙ m.ty;
    number = p.number;
    place = ap seen p.column ∙ m.place;
    declared = p.declared ∙ m.declared;
    body = subst (λ (b : Option Annotation). IsBody b (Some q.body)) (sym p.body) body;
    small_type = subst (λ (k : ℕ). k < 2 ^ 127) (sym p.ty) m.small_type;
    small_number = subst (λ (k : ℕ). k < 2 ^ 127) (sym p.number) taken.bound;
  };
  goes = λ rest. ap (λ (r : Row). at r old) (quantified_run l tree rest st) ∙ taken.takes.goes _ ∙ there (holed l tree rest st n) (slice_get l.quantified n) q e mid ∙ ap (λ (ss : List Sort). at (terms l tree ss (quantified_row l tree rest st n q.body)) mid) (sym are) ∙ all.takes.goes _;
}

-- An invariant, a conjunct.

-- all but the annotation is as it was
pub record Annotates (before after : Code) (a : Annotation) : Type 0 where
  pub terms : after.terms ≡ before.terms
  pub writes : after.writes ≡ before.writes
  pub keys : after.keys ≡ before.keys
  pub ty : after.ty ≡ before.ty
  pub number : after.number ≡ before.number
  pub column : after.column ≡ before.column
  pub declared : after.declared ≡ before.declared
  pub body : after.body ≡ Some a

annotated : {ts : List Term} {before after : Code} {st : State} {a : Annotation} {o : Option Formula} → Matches ts before st → (is : IsAnnotation a o) → Annotates before after a → Matches ts after (record st { body = Some is.formula })
annotated {ts} {before} {after} {st} {a} m is p = record {
  terms = subst (λ (v : Vec ℕ Global). StandAll ts v.items st.terms) (sym p.terms) m.terms;
  writes = subst (λ (v : Vec ℕ Global). StandAll ts v.items st.writes) (sym p.writes) m.writes;
  keys = subst (λ (v : Vec ℕ Global). StandAll ts v.items st.keys) (sym p.keys) m.keys;
  ty = p.ty ∙ m.ty;
  number = p.number ∙ m.number;
  place = ap seen p.column ∙ m.place;
  declared = p.declared ∙ m.declared;
  body = subst (λ (b : Option Annotation). IsBody b (Some is.formula)) (sym p.body) (record { formula = is.formula; is = refl; stands = is.stands });
  small_type = subst (λ (k : ℕ). k < 2 ^ 127) (sym p.ty) m.small_type;
  small_number = subst (λ (k : ℕ). k < 2 ^ 127) (sym p.number) m.small_number;
}

pub no_invariant : {l : Language} {tree : ℕ → Option Formula} {ts : List Term} {before : Code} {old : List ℤ} {st : State} → Matches ts before st → invariant_of l before.ty ≡ None → Stops l tree s.TakeInvariant old st
no_invariant {l} {tree} {before = before} {old} {st} m e = record { none = λ rest. missing (λ f. run l tree rest (record st { body = Some f })) (invariant_of l st.ty) (ap (invariant_of l) (sym m.ty) ∙ e) old }

pub go_invariant : {l : Language} {tree : ℕ → Option Formula} {ts : List Term} {before after : Code} {old : List ℤ} {st : State} {a : Annotation} → Matches ts before st → IsAnnotation a (invariant_of l before.ty) → Annotates before after a → Goes l tree s.TakeInvariant ts after old old st
go_invariant {l} {tree} {before = before} {old = old} {st} m is p = record {
  next = record st { body = Some is.formula };
  matches = annotated m is p;
  goes = λ rest. there (λ f. run l tree rest (record st { body = Some f })) (invariant_of l st.ty) is.formula (ap (invariant_of l) (sym m.ty) ∙ is.is) old;
}

pub no_conjunct : {l : Language} {tree : ℕ → Option Formula} {ts : List Term} {before : Code} {old : List ℤ} {st : State} → Matches ts before st → conjunct_of l (seen before.column) ≡ None → Stops l tree s.TakeConjunct old st
no_conjunct {l} {tree} {before = before} {old} {st} m e = record { none = λ rest. missing (λ f. run l tree rest (record st { body = Some f })) (conjunct_of l st.place) (ap (conjunct_of l) (sym m.place) ∙ e) old }

pub go_conjunct : {l : Language} {tree : ℕ → Option Formula} {ts : List Term} {before after : Code} {old : List ℤ} {st : State} {a : Annotation} → Matches ts before st → IsAnnotation a (conjunct_of l (seen before.column)) → Annotates before after a → Goes l tree s.TakeConjunct ts after old old st
go_conjunct {l} {tree} {before = before} {old = old} {st} m is p = record {
  next = record st { body = Some is.formula };
  matches = annotated m is p;
  goes = λ rest. there (λ f. run l tree rest (record st { body = Some f })) (conjunct_of l st.place) is.formula (ap (conjunct_of l) (sym m.place) ∙ is.is) old;
}

-- Filling.

pub no_body : {ts : List Term} {before : Code} {st : State} → Matches ts before st → before.body ≡ None → st.body ≡ None
no_body {st = st} m e = subst (λ (b : Option Annotation). IsBody b st.body) e m.body

each_trees : (ts : List Term) (ids : List ℕ) (fs : List Formula) → Each ts ids fs → AllStand ts ids (trees fs)
each_trees ts [] [] each = refl
each_trees ts [] (f ∷ fs) each = absurd each
each_trees ts (id ∷ ids) [] each = absurd each
each_trees ts (id ∷ ids) (f ∷ fs) each = (id, ids, refl, each.0.tree, each_trees ts ids fs each.1)

pub filled : {old new : List Term} {before after : Code} {st : State} {a : Annotation} {args : List ℕ} {gs : List Formula} (id count : ℕ) → Matches old before st → before.body ≡ Some a → StandAll old args gs → ((f : Formula) (fs : List Formula) → Stands a.graph.now a.root f → AllStand old args (trees fs) → Stands new id (fill fs f)) → ((n : ℕ) (f : Formula) → Stands old n f → Stands new n f) → after.terms.items ≡ take (length before.terms.items - count) before.terms.items ++ id ∷ [] → Kept before after → HasFilled st gs count new after
filled {old} {new} {before} {after} {st} {a} {args} {gs} id count m e all fills later is p =
    let one : IsAnnotation a st.body = subst (λ (b : Option Annotation). IsBody b st.body) e m.body in
    let then : Later old new = later_is {old = old} {new = new} later in
    let stands : StandsAs new id (fill gs one.formula) = record { tree = fills one.formula gs one.stands.tree (each_trees old args gs all.each) } in
    record { formula = one.formula; is = one.is; matches = changed_terms _ m then (replaced count m.terms refl then stands is) p }

pub last_stand : {ts : List Term} {ids last : List ℕ} {fs : List Formula} (count : ℕ) → StandAll ts ids fs → last ≡ drop (length ids - count) ids → StandAll ts last (top count fs)
last_stand {ts} {ids} {last} {fs} count all e =
    same_ids e (subst (λ (n : ℕ). StandAll ts (drop (length ids - count) ids) (drop n fs)) (ap (λ (n : ℕ). n - count) (as_long all)) (all_drop (length ids - count) all))

pub fill_went : (l : Language) (tree : ℕ → Option Formula) (now : List Term) (after : Code) (numbers : List ℤ) (st : State) (count : ℕ) (went : Bool) → MatchBool went (HasFilled st (top count st.terms ++ st.keys) count now after) (st.body ≡ None) → Went l tree (s.Fill count) now after numbers numbers st went
fill_went l tree now after numbers st count true h = record {
  next = replace count (fill (top count st.terms ++ st.keys) h.formula) st;
  matches = h.matches;
  goes = λ rest. there (λ f. run l tree rest (replace count (fill (top count st.terms ++ st.keys) f) st)) st.body h.formula h.is numbers;
}
fill_went l tree now after numbers st count false e = record { none = λ rest. missing (λ f. run l tree rest (replace count (fill (top count st.terms ++ st.keys) f) st)) st.body e numbers }

pub fill_behind_went : (l : Language) (tree : ℕ → Option Formula) (now : List Term) (after : Code) (numbers : List ℤ) (st : State) (count : ℕ) (went : Bool) → MatchBool went (HasFilled st (st.keys ++ top count st.terms) count now after) (st.body ≡ None) → Went l tree (s.FillBehind count) now after numbers numbers st went
fill_behind_went l tree now after numbers st count true h = record {
  next = replace count (fill (st.keys ++ top count st.terms) h.formula) st;
  matches = h.matches;
  goes = λ rest. there (λ f. run l tree rest (replace count (fill (st.keys ++ top count st.terms) f) st)) st.body h.formula h.is numbers;
}
fill_behind_went l tree now after numbers st count false e = record { none = λ rest. missing (λ f. run l tree rest (replace count (fill (st.keys ++ top count st.terms) f) st)) st.body e numbers }
