-- Steps of the code are the row's.
use Rattle.std.specs.Prelude.{◌≡◌, ◌<◌, ◌^◌, ℕ, zero, suc, ◌-◌, length, map, ℤ, pos, List, [], ◌∷◌, ◌++◌, take, drop, Option, option_map, Some, None, MatchOption, slice_get}
use Rattle.std.proofs.Common.{refl, sym, ap, ◌∙◌, subst, Vec, Global}
use Rattle.terms.specs.declared.sort.Sort.{Sort}
use Rattle.terms.specs.declared.sort.Sort.TheVariants as sort
use Rattle.terms.specs.declared.term.Term.{Term}
use Rattle.terms.specs.declared.term.Kind.{Kind}
use Rattle.terms.specs.Formula.{Formula, Node}
use Rattle.method.specs.declared.program.DeclaredType.{DeclaredType}
use Rattle.method.specs.declared.program.DeclaredType.TheVariants as d
use Rattle.conditions.specs.Formulas as c
use Rattle.conditions.specs.Symbolic as y
use Rattle.axiom_instances.specs.Terms.{trees, num, no, eq, range_facts, kind_of, arguments_of}
use Rattle.terms.specs.declared.sort.Column.{Column as Sorted}
use Rattle.term_meaning.specs.Columns.{Column, columns_of, column_sorts, sorts_of, further_keys}
use Rattle.term_meaning.specs.Meaning.{Language}
use Rattle.method.specs.declared.program.Program.{Program}
use Rattle.axiom_instances.specs.Fitting.{Row, heap, needs, number, term, terms, refs, column}
use Rattle.condition_formulas.specs.Standing.{StandsAs, StandAll, Later}
use Rattle.condition_formulas.proofs.Rows.{none, both, then_one, same_ids, more, all_later, as_long}
use Rattle.axiom_steps.specs.declared.steps.Step.{Step}
use Rattle.axiom_steps.specs.declared.steps.Step.TheVariants as s
use Rattle.rule_instances.specs.declared.walk.State.{State as Code}
use Rattle.axiom_instances.specs.Axioms.{StatusChange, change_of, type_of_column}
use Rattle.axiom_steps.specs.declared.steps.Column.{Column as CodeColumn}
use Rattle.rule_instances.specs.declared.changes.Change.{Change}
use Rattle.rule_instances.specs.Changes.{IsChange}
use Rattle.rule_instances.specs.Columns.{seen}
use Rattle.axiom_steps.specs.declared.steps.Index.{Index}
use Rattle.axiom_steps.specs.declared.steps.Behind.{Behind}
use Rattle.axiom_steps.specs.Steps.{State, push, replace, top, below, index_of, behind, none_of, from_last, changed, run, at}
use Rattle.rule_instances.specs.Reading.{Refuses, TakesNumber, TakesFormula, TakesFormulas, any}
use Rattle.rule_instances.specs.declared.annotations.Annotation.{Annotation}
use Rattle.rule_instances.specs.Annotations.{IsBody}
use Rattle.rule_instances.specs.Walking.{Matches, Goes, Stops}
use Rattle.rule_instances.proofs.Places.{each_at, none_at}
use Rattle.rule_instances.proofs.Reading.{there, missing}
use Rattle.rule_instances.proofs.Replacing.{replaced, same_all_of}

-- one more term stands behind
pub record Pushed (before after : Code) (id : ℕ) : Type 0 where
  pub terms : after.terms.items ≡ before.terms.items ++ id ∷ []
  pub writes : after.writes ≡ before.writes
  pub keys : after.keys ≡ before.keys
  pub ty : after.ty ≡ before.ty
  pub number : after.number ≡ before.number
  pub column : after.column ≡ before.column
  pub declared : after.declared ≡ before.declared
  pub body : after.body ≡ before.body

pub pushed : {ts : List Term} {before after : Code} {st : State} {f : Formula} {id : ℕ} → Matches ts before st → StandsAs ts id f → Pushed before after id → Matches ts after (push f st)
pushed {ts} {before} {after} {st} {f} {id} m one p = record {
  terms = same_ids p.terms (then_one m.terms one);
  writes = subst (λ (v : Vec ℕ Global). StandAll ts v.items st.writes) (sym p.writes) m.writes;
  keys = subst (λ (v : Vec ℕ Global). StandAll ts v.items st.keys) (sym p.keys) m.keys;
  ty = p.ty ∙ m.ty;
  number = p.number ∙ m.number;
  place = ap seen p.column ∙ m.place;
  declared = p.declared ∙ m.declared;
  body = subst (λ (b : Option Annotation). IsBody b st.body) (sym p.body) m.body;
  small_type = subst (λ (n : ℕ). n < 2 ^ 127) (sym p.ty) m.small_type;
  small_number = subst (λ (n : ℕ). n < 2 ^ 127) (sym p.number) m.small_number;
}

pub stop_take : {l : Language} {tree : ℕ → Option Formula} {old : List ℤ} {st : State} (srt : Sort) → Refuses (term l tree srt) old → Stops l tree (s.Take srt) old st
stop_take {l} {tree} {old} {st} srt refused = record { none = λ rest. refused.none (λ f. run l tree rest (push f st)) }

pub go_take : {l : Language} {tree : ℕ → Option Formula} {ts : List Term} {before after : Code} {old new : List ℤ} {st : State} {id : ℕ} (srt : Sort) → Matches ts before st → TakesFormula (term l tree srt) ts old new id → Pushed before after id → Goes l tree (s.Take srt) ts after old new st
go_take {l} {tree} {st = st} srt m one p = record { next = push one.formula st; matches = pushed m one.stands p; goes = λ rest. one.takes.goes (λ f. run l tree rest (push f st)) }

pub stop_any : {l : Language} {tree : ℕ → Option Formula} {old : List ℤ} {st : State} → Refuses (any tree) old → Stops l tree s.TakeAny old st
stop_any {l} {tree} {old} {st} refused = record { none = λ rest. refused.none (λ f. run l tree rest (push f st)) }

pub go_any : {l : Language} {tree : ℕ → Option Formula} {ts : List Term} {before after : Code} {old new : List ℤ} {st : State} {id : ℕ} → Matches ts before st → TakesFormula (any tree) ts old new id → Pushed before after id → Goes l tree s.TakeAny ts after old new st
go_any {l} {tree} {st = st} m one p = record { next = push one.formula st; matches = pushed m one.stands p; goes = λ rest. one.takes.goes (λ f. run l tree rest (push f st)) }

pub stop_type : {l : Language} {tree : ℕ → Option Formula} {old : List ℤ} {st : State} → Refuses number old → Stops l tree s.TakeType old st
stop_type {l} {tree} {old} {st} refused = record { none = λ rest. refused.none (λ n. run l tree rest (record st { ty = n })) }

-- Places.
pub stop_term : {l : Language} {tree : ℕ → Option Formula} {ts : List Term} {before : Code} {old : List ℤ} {st : State} (place : ℕ) → Matches ts before st → None ≡ slice_get before.terms.items place → Stops l tree (s.Term place) old st
stop_term {l} {tree} {ts} {before} {old} {st} place m e = record { none = λ rest. missing (λ f. run l tree rest (push f st)) (slice_get st.terms place) (none_at ts before.terms.items st.terms place m.terms.each e) old }

pub go_term : {l : Language} {tree : ℕ → Option Formula} {ts : List Term} {before after : Code} {old : List ℤ} {st : State} {id : ℕ} (place : ℕ) → Matches ts before st → Some id ≡ slice_get before.terms.items place → Pushed before after id → Goes l tree (s.Term place) ts after old old st
go_term {l} {tree} {ts} {before} {after} {old} {st} {id} place m e p =
    let one = each_at ts before.terms.items st.terms place id m.terms.each e in
    record { next = push one.0 st; matches = pushed m one.2 p; goes = λ rest. there (λ f. run l tree rest (push f st)) (slice_get st.terms place) one.0 one.1 old }

-- The writes list.
pub stop_writes : {l : Language} {tree : ℕ → Option Formula} {old : List ℤ} {st : State} → Refuses (refs l tree) old → Stops l tree s.TakeWrites old st
stop_writes {l} {tree} {old} {st} refused = record { none = λ rest. refused.none (λ ws. run l tree rest (record st { writes = ws })) }

pub none_found : (P : Type 0) (Q : Vec ℕ Global → Type 0) (found : Option (Vec ℕ Global)) → MatchOption found P Q → found ≡ None → P
none_found P Q found is e = subst (λ (o : Option (Vec ℕ Global)). MatchOption o P Q) e is

pub one_found : (P : Type 0) (Q : Vec ℕ Global → Type 0) (found : Option (Vec ℕ Global)) (v : Vec ℕ Global) → MatchOption found P Q → found ≡ Some v → Q v
one_found P Q found v is e = subst (λ (o : Option (Vec ℕ Global)). MatchOption o P Q) e is

-- all but the formulas is as it was
pub record Kept (before after : Code) : Type 0 where
  pub writes : after.writes ≡ before.writes
  pub keys : after.keys ≡ before.keys
  pub ty : after.ty ≡ before.ty
  pub number : after.number ≡ before.number
  pub column : after.column ≡ before.column
  pub declared : after.declared ≡ before.declared
  pub body : after.body ≡ before.body

pub changed_terms : {old new : List Term} {before after : Code} {st : State} (fs : List Formula) → Matches old before st → Later old new → StandAll new after.terms.items fs → Kept before after → Matches new after (record st { terms = fs })
changed_terms {old} {new} {before} {after} {st} fs m later all p = record {
  terms = all;
  writes = subst (λ (v : Vec ℕ Global). StandAll new v.items st.writes) (sym p.writes) (all_later later m.writes);
  keys = subst (λ (v : Vec ℕ Global). StandAll new v.items st.keys) (sym p.keys) (all_later later m.keys);
  ty = p.ty ∙ m.ty;
  number = p.number ∙ m.number;
  place = ap seen p.column ∙ m.place;
  declared = p.declared ∙ m.declared;
  body = subst (λ (b : Option Annotation). IsBody b st.body) (sym p.body) m.body;
  small_type = subst (λ (n : ℕ). n < 2 ^ 127) (sym p.ty) m.small_type;
  small_number = subst (λ (n : ℕ). n < 2 ^ 127) (sym p.number) m.small_number;
}

pub go_build : {l : Language} {tree : ℕ → Option Formula} {old new : List Term} {before after : Code} {numbers : List ℤ} {st : State} {z : ℤ} (kind : Kind) (index : Index) (count : ℕ) (tail : Behind) → Matches old before st → Later old new → z ≡ index_of index st → StandAll new after.terms.items (below count st.terms ++ Node kind z (trees (top count st.terms ++ behind tail st)) ∷ []) → Kept before after → Goes l tree (s.Build kind index count tail) new after numbers numbers st
go_build {l} {tree} {new = new} {after = after} {st = st} {z = z} kind index count tail m later is all p = record {
  next = replace count (Node kind (index_of index st) (trees (top count st.terms ++ behind tail st))) st;
  matches = changed_terms _ m later (subst (λ (n : ℤ). StandAll new after.terms.items (below count st.terms ++ Node kind n (trees (top count st.terms ++ behind tail st)) ∷ [])) is all) p;
  goes = λ rest. refl;
}

-- The last formulas.
pub from_end : (old : List Term) (ids : List ℕ) (fs : List Formula) (n id : ℕ) → StandAll old ids fs → Some id ≡ slice_get ids (length ids - n) → (f : Formula) × (from_last n fs ≡ Some f) × StandsAs old id f
from_end old ids fs n id all e =
    let one = each_at old ids fs (length ids - n) id all.each e in
    let same : length ids - n ≡ length fs - n = ap (λ (k : ℕ). k - n) (as_long all) in
    (one.0, ap (λ (k : ℕ). slice_get fs k) (sym same) ∙ one.1, one.2)

pub none_from_end : (old : List Term) (ids : List ℕ) (fs : List Formula) (n : ℕ) → StandAll old ids fs → None ≡ slice_get ids (length ids - n) → from_last n fs ≡ None
none_from_end old ids fs n all e =
    let same : length ids - n ≡ length fs - n = ap (λ (k : ℕ). k - n) (as_long all) in
    ap (λ (k : ℕ). slice_get fs k) (sym same) ∙ none_at old ids fs (length ids - n) all.each e

pub stop_range : {l : Language} {tree : ℕ → Option Formula} {ts : List Term} {before : Code} {old : List ℤ} {st : State} → Matches ts before st → None ≡ slice_get before.terms.items (length before.terms.items - 1) → Stops l tree s.InRange old st
stop_range {l} {tree} {ts} {before} {old} {st} m e = record { none = λ rest. missing (λ x. run l tree rest (replace 1 (range_facts st.declared x) st)) (from_last 1 st.terms) (none_from_end ts before.terms.items st.terms 1 m.terms e) old }

facts_are : (ty : DeclaredType) (f : Formula) → c.all_of (y.ranges ty f) ≡ range_facts ty f
facts_are (d.Integer c) f = refl
facts_are (d.Pointer n) f = refl
facts_are d.Object f = refl
facts_are d.Claim f = refl

pub go_range : {l : Language} {tree : ℕ → Option Formula} {old mid new : List Term} {before after : Code} {numbers : List ℤ} {st : State} {x id : ℕ} {facts : List ℕ} → Matches old before st → Some x ≡ slice_get before.terms.items (length before.terms.items - 1) → Later old mid → Later mid new → ((f : Formula) → StandsAs old x f → StandAll mid facts (y.ranges before.declared f)) → ((fs : List Formula) → StandAll mid facts fs → StandsAs new id (c.all_of fs)) → after.terms.items ≡ take (length before.terms.items - 1) before.terms.items ++ id ∷ [] → Kept before after → Goes l tree s.InRange new after numbers numbers st
go_range {l} {tree} {old} {mid} {new} {before} {after} {numbers} {st} {x} {id} m e first then facts made is p =
    let one = from_end old before.terms.items st.terms 1 x m.terms e in
    let whole : c.all_of (y.ranges before.declared one.0) ≡ range_facts st.declared one.0 = facts_are before.declared one.0 ∙ ap (λ (ty : DeclaredType). range_facts ty one.0) m.declared in
    let formula : StandsAs new id (range_facts st.declared one.0) = subst (λ (f : Formula). StandsAs new id f) whole (made _ (facts one.0 one.2)) in
    let later : Later old new = λ n f here. then n f (first n f here) in
    record {
      next = replace 1 (range_facts st.declared one.0) st;
      matches = changed_terms _ m later (replaced 1 m.terms refl later formula is) p;
      goes = λ rest. there (λ f. run l tree rest (replace 1 (range_facts st.declared f) st)) (from_last 1 st.terms) one.0 one.1 numbers;
    }

-- That the last but one is none of the writes list.
pub stop_first : {l : Language} {tree : ℕ → Option Formula} {ts : List Term} {before : Code} {old : List ℤ} {st : State} → Matches ts before st → None ≡ slice_get before.terms.items (length before.terms.items - 2) → Stops l tree s.NotWritten old st
stop_first {l} {tree} {ts} {before} {old} {st} m e = record { none = λ rest. missing (λ x. needs (from_last 1 st.terms) (λ f. run l tree rest (replace 2 (none_of st.writes x f) st))) (from_last 2 st.terms) (none_from_end ts before.terms.items st.terms 2 m.terms e) old }

pub stop_second : {l : Language} {tree : ℕ → Option Formula} {ts : List Term} {before : Code} {old : List ℤ} {st : State} {x : ℕ} → Matches ts before st → Some x ≡ slice_get before.terms.items (length before.terms.items - 2) → None ≡ slice_get before.terms.items (length before.terms.items - 1) → Stops l tree s.NotWritten old st
stop_second {l} {tree} {ts} {before} {old} {st} {x} m e no_last =
    let one = from_end ts before.terms.items st.terms 2 x m.terms e in
    record { none = λ rest. there (λ y. needs (from_last 1 st.terms) (λ f. run l tree rest (replace 2 (none_of st.writes y f) st))) (from_last 2 st.terms) one.0 one.1 old ∙ missing (λ f. run l tree rest (replace 2 (none_of st.writes one.0 f) st)) (from_last 1 st.terms) (none_from_end ts before.terms.items st.terms 1 m.terms no_last) old }

pub go_unwritten : {l : Language} {tree : ℕ → Option Formula} {old mid new : List Term} {before after : Code} {numbers : List ℤ} {st : State} {x f id : ℕ} {others all : List ℕ} → Matches old before st → Some x ≡ slice_get before.terms.items (length before.terms.items - 2) → Some f ≡ slice_get before.terms.items (length before.terms.items - 1) → Later old mid → Later mid new → ((g : Formula) (gs : List Formula) → StandsAs old x g → StandAll old before.writes.items gs → StandAll mid others (map (λ w. no (eq g w)) gs)) → all ≡ f ∷ others → ((fs : List Formula) → StandAll mid all fs → StandsAs new id (c.all_of fs)) → after.terms.items ≡ take (length before.terms.items - 2) before.terms.items ++ id ∷ [] → Kept before after → Goes l tree s.NotWritten new after numbers numbers st
go_unwritten {l} {tree} {old} {mid} {new} {before} {after} {numbers} {st} {x} {f} {id} {others} m e e' first then each are made is p =
    let one = from_end old before.terms.items st.terms 2 x m.terms e in
    let last = from_end old before.terms.items st.terms 1 f m.terms e' in
    let parts = same_ids are (more (first f last.0 last.2) (each one.0 st.writes one.2 m.writes)) in
    let formula : StandsAs new id (none_of st.writes one.0 last.0) = subst (λ (g : Formula). StandsAs new id g) (same_all_of (last.0 ∷ map (λ w. no (eq one.0 w)) st.writes)) (made _ parts) in
    let later : Later old new = λ n g here. then n g (first n g here) in
    record {
      next = replace 2 (none_of st.writes one.0 last.0) st;
      matches = changed_terms _ m later (replaced 2 m.terms refl later formula is) p;
      goes = λ rest. there (λ y. needs (from_last 1 st.terms) (λ g. run l tree rest (replace 2 (none_of st.writes y g) st))) (from_last 2 st.terms) one.0 one.1 numbers ∙ there (λ g. run l tree rest (replace 2 (none_of st.writes one.0 g) st)) (from_last 1 st.terms) last.0 last.1 numbers;
    }

-- Columns.
as_column : (l : Language) (tree : ℕ → Option Formula) (row : ℕ → Column → List Formula → Row) → column l tree row ≡ number (λ n. needs (slice_get (columns_of l.program) n) (λ c. terms l tree (further_keys l.program c) (row n c)))
unfolding column
as_column l tree row = refl

column_row : (l : Language) (tree : ℕ → Option Formula) (rest : List Step) (st : State) → ℕ → Column → List Formula → Row
column_row l tree rest st n c ks = run l tree rest (record st { number = n; place = c; keys = ks })

column_run : (l : Language) (tree : ℕ → Option Formula) (rest : List Step) (st : State) → run l tree (s.TakeColumn ∷ rest) st ≡ column l tree (column_row l tree rest st)
unfolding column_row
column_run l tree rest st = refl

pub stop_number : {l : Language} {tree : ℕ → Option Formula} {old : List ℤ} {st : State} → Refuses number old → Stops l tree s.TakeColumn old st
stop_number {l} {tree} {old} {st} refused = record { none = λ rest. ap (λ (r : Row). at r old) (column_run l tree rest st ∙ as_column l tree (column_row l tree rest st)) ∙ refused.none _ }

pub stop_column : {l : Language} {tree : ℕ → Option Formula} {old mid : List ℤ} {n : ℕ} {st : State} → TakesNumber old mid n → slice_get (columns_of l.program) n ≡ None → Stops l tree s.TakeColumn old st
stop_column {l} {tree} {old} {mid} {n} {st} taken e = record { none = λ rest. ap (λ (r : Row). at r old) (column_run l tree rest st ∙ as_column l tree (column_row l tree rest st)) ∙ taken.takes.goes _ ∙ missing (λ c. terms l tree (further_keys l.program c) (column_row l tree rest st n c)) (slice_get (columns_of l.program) n) e mid }

pub stop_keys : {l : Language} {tree : ℕ → Option Formula} {old mid : List ℤ} {n : ℕ} {st : State} {sorts : List Sort} (c : Column) → TakesNumber old mid n → slice_get (columns_of l.program) n ≡ Some c → sorts ≡ further_keys l.program c → Refuses (terms l tree sorts) mid → Stops l tree s.TakeColumn old st
stop_keys {l} {tree} {old} {mid} {n} {st} c taken e are refused = record {
  none = λ rest. ap (λ (r : Row). at r old) (column_run l tree rest st ∙ as_column l tree (column_row l tree rest st)) ∙ taken.takes.goes _ ∙ there (λ d. terms l tree (further_keys l.program d) (column_row l tree rest st n d)) (slice_get (columns_of l.program) n) c e mid ∙ ap (λ (ss : List Sort). at (terms l tree ss (column_row l tree rest st n c)) mid) (sym are) ∙ refused.none _;
}

pub go_column : {l : Language} {tree : ℕ → Option Formula} {ts : List Term} {before after : Code} {old mid new : List ℤ} {n : ℕ} {st : State} {sorts : List Sort} {ids : List ℕ} (c : Column) → Matches ts before st → TakesNumber old mid n → slice_get (columns_of l.program) n ≡ Some c → sorts ≡ further_keys l.program c → TakesFormulas (terms l tree sorts) ts mid new ids → after.terms ≡ before.terms → after.writes ≡ before.writes → after.ty ≡ before.ty → after.declared ≡ before.declared → after.number ≡ n → seen after.column ≡ c → after.keys.items ≡ ids → after.body ≡ before.body → Goes l tree s.TakeColumn ts after old new st
unfolding column_row
go_column {l} {tree} {ts} {before} {after} {old} {mid} {new} {n} {st} c m taken e are all terms_kept writes_kept ty_kept declared_kept is_number is_column is_keys body_kept = record {
  next = record st { number = n; place = c; keys = all.formulas };
  matches = record {
    terms = subst (λ (v : Vec ℕ Global). StandAll ts v.items st.terms) (sym terms_kept) m.terms;
    writes = subst (λ (v : Vec ℕ Global). StandAll ts v.items st.writes) (sym writes_kept) m.writes;
    keys = same_ids is_keys all.stand;
    ty = ty_kept ∙ m.ty;
    number = is_number;
    place = is_column;
    declared = declared_kept ∙ m.declared;
    body = subst (λ (b : Option Annotation). IsBody b st.body) (sym body_kept) m.body;
    small_type = subst (λ (k : ℕ). k < 2 ^ 127) (sym ty_kept) m.small_type;
    small_number = subst (λ (k : ℕ). k < 2 ^ 127) (sym is_number) taken.bound;
  };
  goes = λ rest. ap (λ (r : Row). at r old) (column_run l tree rest st ∙ as_column l tree (column_row l tree rest st)) ∙ taken.takes.goes _ ∙ there (λ d. terms l tree (further_keys l.program d) (column_row l tree rest st n d)) (slice_get (columns_of l.program) n) c e mid ∙ ap (λ (ss : List Sort). at (terms l tree ss (column_row l tree rest st n c)) mid) (sym are) ∙ all.takes.goes _;
}

-- the sorts of a column's further keys, by the table of sorts
pub keys_are : (p : Program) {sorts : List Sorted} (n : ℕ) {keys : List Sort} (c : Column) → sorts ≡ column_sorts p → slice_get (columns_of p) n ≡ Some c → ((x : Sorted) → slice_get sorts n ≡ Some x → keys ≡ drop 1 x.keys) → keys ≡ further_keys p c
keys_are p {sorts} n {keys} c is e keys_at = keys_at (sorts_of p c) (ap (λ (ss : List Sorted). slice_get ss n) is ∙ get_of (columns_of p) n ∙ ap (option_map (sorts_of p)) e)
  where
    get_of : (cs : List Column) (n : ℕ) → slice_get (map (sorts_of p) cs) n ≡ option_map (sorts_of p) (slice_get cs n)
    get_of [] n = refl
    get_of (c ∷ cs) zero = refl
    get_of (c ∷ cs) (suc n) = get_of cs n

-- A field's type.
pub stop_field_type : {l : Language} {tree : ℕ → Option Formula} {old : List ℤ} {st : State} {program : Program} (place : CodeColumn) → program ≡ l.program → seen place ≡ st.place → None ≡ type_of_column program (seen place) → Stops l tree s.TakeFieldType old st
stop_field_type {l} {tree} {old} {st} {program} place same placed e = record { none = λ rest. missing (λ ty. run l tree rest (record st { declared = ty })) (type_of_column l.program st.place) (sym (e ∙ ap (λ p. type_of_column p (seen place)) same ∙ ap (λ c. type_of_column l.program c) placed)) old }

pub go_field_type : {l : Language} {tree : ℕ → Option Formula} {ts : List Term} {before after : Code} {old : List ℤ} {st : State} {program : Program} {ty : DeclaredType} → Matches ts before st → program ≡ l.program → Some ty ≡ type_of_column program (seen before.column) → after.terms ≡ before.terms → after.writes ≡ before.writes → after.keys ≡ before.keys → after.ty ≡ before.ty → after.number ≡ before.number → after.column ≡ before.column → after.declared ≡ ty → after.body ≡ before.body → Goes l tree s.TakeFieldType ts after old old st
go_field_type {l} {tree} {ts} {before} {after} {old} {st} {program} {ty} m same e terms_kept writes_kept keys_kept ty_kept number_kept column_kept is body_kept = record {
  next = record st { declared = ty };
  matches = record {
    terms = subst (λ (v : Vec ℕ Global). StandAll ts v.items st.terms) (sym terms_kept) m.terms;
    writes = subst (λ (v : Vec ℕ Global). StandAll ts v.items st.writes) (sym writes_kept) m.writes;
    keys = subst (λ (v : Vec ℕ Global). StandAll ts v.items st.keys) (sym keys_kept) m.keys;
    ty = ty_kept ∙ m.ty;
    number = number_kept ∙ m.number;
    place = ap seen column_kept ∙ m.place;
    declared = is;
    body = subst (λ (b : Option Annotation). IsBody b st.body) (sym body_kept) m.body;
    small_type = subst (λ (n : ℕ). n < 2 ^ 127) (sym ty_kept) m.small_type;
    small_number = subst (λ (n : ℕ). n < 2 ^ 127) (sym number_kept) m.small_number;
  };
  goes = λ rest. there (λ d. run l tree rest (record st { declared = d })) (type_of_column l.program st.place) ty (sym (e ∙ ap (λ p. type_of_column p (seen before.column)) same ∙ ap (λ c. type_of_column l.program c) m.place)) old;
}

-- A heap with an object opened or closed.
change_row : (l : Language) (tree : ℕ → Option Formula) (rest : List Step) (st : State) → Formula → StatusChange → Row
change_row l tree rest st h c = run l tree rest (changed h c st)

change_run : (l : Language) (tree : ℕ → Option Formula) (rest : List Step) (st : State) → run l tree (s.TakeChange ∷ rest) st ≡ term l tree sort.Heap (λ b. needs (change_of (kind_of b) (arguments_of b)) (change_row l tree rest st b))
unfolding change_row heap
change_run l tree rest st = refl

pub stop_heap : {l : Language} {tree : ℕ → Option Formula} {old : List ℤ} {st : State} → Refuses (term l tree sort.Heap) old → Stops l tree s.TakeChange old st
stop_heap {l} {tree} {old} {st} refused = record { none = λ rest. ap (λ (r : Row). at r old) (change_run l tree rest st) ∙ refused.none _ }

pub stop_change : {l : Language} {tree : ℕ → Option Formula} {ts : List Term} {old new : List ℤ} {st : State} {id : ℕ} → TakesFormula (term l tree sort.Heap) ts old new id → ((f : Formula) → StandsAs ts id f → change_of (kind_of f) (arguments_of f) ≡ None) → Stops l tree s.TakeChange old st
stop_change {l} {tree} {ts} {old} {new} {st} one no_change = record { none = λ rest. ap (λ (r : Row). at r old) (change_run l tree rest st) ∙ one.takes.goes _ ∙ missing (change_row l tree rest st one.formula) (change_of (kind_of one.formula) (arguments_of one.formula)) (no_change one.formula one.stands) new }

pub go_change : {l : Language} {tree : ℕ → Option Formula} {ts later_ts : List Term} {before after : Code} {old new : List ℤ} {st : State} {id mode : ℕ} {c : Change} → Matches ts before st → TakesFormula (term l tree sort.Heap) ts old new id → ((f : Formula) → StandsAs ts id f → IsChange ts c f) → Later ts later_ts → StandsAs later_ts mode (num (pos c.mode)) → after.terms.items ≡ before.terms.items ++ id ∷ c.heap ∷ c.object ∷ c.owner ∷ mode ∷ [] → Kept before after → Goes l tree s.TakeChange later_ts after old new st
unfolding change_row
go_change {l} {tree} {ts} {later_ts} {before} {after} {old} {new} {st} {id} {mode} {c} m one changes later number is p =
    let it = changes one.formula one.stands in
    let numeral : StandsAs later_ts mode (num it.change.mode) = subst (λ (z : ℤ). StandsAs later_ts mode (num z)) it.mode number in
    let five = more (later _ _ one.stands) (more (later _ _ it.heap) (more (later _ _ it.object) (more (later _ _ it.owner) (more numeral none)))) in
    record {
      next = changed one.formula it.change st;
      matches = changed_terms _ m later (same_ids is (both (all_later later m.terms) five)) p;
      goes = λ rest. ap (λ (r : Row). at r old) (change_run l tree rest st) ∙ one.takes.goes _ ∙ there (change_row l tree rest st one.formula) (change_of (kind_of one.formula) (arguments_of one.formula)) it.change it.is new;
    }
