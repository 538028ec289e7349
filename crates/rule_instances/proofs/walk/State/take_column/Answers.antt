use Rattle.std.proofs.Common.{refl, sym, ap, ◌∙◌, slice_get}
use Rattle.term_meaning.specs.Columns.{columns_of}
use Rattle.axiom_instances.specs.Fitting.{terms}
use Rattle.rule_instances.specs.Columns.{seen}
use Rattle.rule_instances.specs.Reading.{Refuses, TakesFormulas}
use Rattle.rule_instances.proofs.Going.{stop_number, stop_column, stop_keys, go_column, keys_are, none_found, one_found}
use Rattle.rule_instances.proofs.walk.State.take_column.Goals as goal

pub returns-in_default : goal.returns-in_default
returns-in_default c = λ ts l tree st is m. stop_number c.in_default.ensures.none

pub returns-in_default-column_of : goal.returns-in_default-column_of
returns-in_default-column_of c = λ ts l tree st is m. stop_column c.in-Some.ensures.some (ap (λ p. slice_get (columns_of p) c.in-Some.number) (sym is.program) ∙ sym c.in_default-column_of.ensures)

pub returns-in_default-ids : goal.returns-in_default-ids
returns-in_default-ids c = λ ts l tree st is m.
    let there = ap (λ p. slice_get (columns_of p) c.in-Some.number) (sym is.program) ∙ sym c.in-Some-column_of.ensures in
    let keys = keys_are l.program c.in-Some.number (seen c.in-Some-column_of.column) (c.deref.ensures.value ∙ is.language.columns) there c.further_keys-sorts.ensures in
    stop_keys (seen c.in-Some-column_of.column) c.in-Some.ensures.some there keys (none_found (Refuses (terms l tree c.further_keys-sorts.result.now) c.natural.new.self) (λ all. TakesFormulas (terms l tree c.further_keys-sorts.result.now) ts c.natural.new.self c.take_all.new.numbers all.items) _ (c.in_ok-ids.ensures ts l tree is) c.in_default-ids.is)

pub returns : goal.returns
returns c = λ ts l tree st is m.
    let there = ap (λ p. slice_get (columns_of p) c.in-Some.number) (sym is.program) ∙ sym c.in-Some-column_of.ensures in
    let keys = keys_are l.program c.in-Some.number (seen c.in-Some-column_of.column) (c.deref.ensures.value ∙ is.language.columns) there c.further_keys-sorts.ensures in
    go_column (seen c.in-Some-column_of.column) m c.in-Some.ensures.some there keys (one_found (Refuses (terms l tree c.further_keys-sorts.result.now) c.natural.new.self) (λ all. TakesFormulas (terms l tree c.further_keys-sorts.result.now) ts c.natural.new.self c.take_all.new.numbers all.items) _ c.in-Some-ids.keys (c.in_ok-ids.ensures ts l tree is) c.in-Some-ids.is) refl refl refl refl refl refl refl refl
