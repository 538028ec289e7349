use Rattle.std.proofs.Common.{◌≤◌, ℕ, List, length, Bool, Ok, true, sym, subst, arith, ◌++◌, ◌∷◌, [], ◌+◌, Option}
use Rattle.std.proofs.lemmas.Result.{err_from_is_err_and}
use Rattle.terms.specs.declared.term.Literal.{Literal}
use Rattle.block_layout.proofs.Spaces.{keeps_itself, keeps_then}
use Rattle.refutation_check.specs.Judging.{TakesTerms}
use Rattle.refutation_check.proofs.LemmaAnswers.{LemmasTo, lemmas_begin, some_lemma, lemma_next, lemma_stops, terms_stop, bad_terms, lemmas_end}
use Rattle.refutation_check.proofs.lemmas.check_lemmas.Goals as goal

pub loop-i-init : goal.loop-i-init
loop-i-init c = record {
  kept = keeps_itself;
  so_far = lemmas_begin c.args.theory c.args.lemmas.now c.args.space.now _ _ c.new-names.ensures.items c.none-held.ensures;
}

pub returns-in_err-good-clause-answer : goal.returns-in_err-good-clause-answer
returns-in_err-good-clause-answer c = λ l t s.
    let q = err_from_is_err_and c.from_residual.result c.from_residual.ensures.1 in
    rw (q.1, q.2) (terms_stop c.args.theory c.args.lemmas.now c.loop-i.i c.lemma_at-lemma.result.now c.args.space.now c.loop-i.space c.take_terms.new.space c.loop-i.names.items c.take_terms.new.names.items c.loop-i.held.clauses.items _ c.lemma_at-lemma.ensures c.loop-i.invariant.kept
    c.loop-i.invariant.so_far c.in_err-good.ensures.takes l t s)

pub returns-in_err-good-clause-kept : goal.returns-in_err-good-clause-kept
returns-in_err-good-clause-kept c = keeps_then c.loop-i.invariant.kept c.take_terms.ensures.kept

pub returns-in_err-all-clause-kept : goal.returns-in_err-all-clause-kept
returns-in_err-all-clause-kept c = keeps_then c.loop-i.invariant.kept c.take_terms.ensures.kept

pub returns-then-not-good-clause-answer : goal.returns-then-not-good-clause-answer
returns-then-not-good-clause-answer c = λ l t s.
    bad_terms c.args.theory c.args.lemmas.now c.loop-i.i c.lemma_at-lemma.result.now c.args.space.now c.loop-i.space c.take_terms.new.space c.loop-i.names.items c.take_terms.new.names.items c.loop-i.held.clauses.items c.in_ok-all.all c.lemma_at-lemma.ensures c.loop-i.invariant.kept c.take_terms.ensures.kept
    c.loop-i.invariant.so_far
    (subst (λ (b : Bool). TakesTerms c.args.theory.language.now c.lemma_at-lemma.result.now.terms c.loop-i.space c.loop-i.names.items c.take_terms.new.space c.take_terms.new.names.items (Ok b)) c.if-not-good.true c.in_ok-good.ensures.takes)
    c.in_ok-all.ensures l t s

pub returns-then-not-good-clause-kept : goal.returns-then-not-good-clause-kept
returns-then-not-good-clause-kept c = keeps_then c.loop-i.invariant.kept c.take_terms.ensures.kept

pub judge_lemma-requires-clause-lemma : goal.judge_lemma-requires-clause-lemma
judge_lemma-requires-clause-lemma c =
    some_lemma c.args.theory c.args.lemmas.now c.loop-i.i c.lemma_at-lemma.result.now c.args.space.now c.loop-i.space c.take_terms.new.space c.loop-i.names.items c.deref.result.now c.loop-i.held.clauses.items c.lemma_at-lemma.ensures c.loop-i.invariant.kept c.take_terms.ensures.kept c.loop-i.invariant.so_far
    (subst (λ (ns : List ℕ). TakesTerms c.args.theory.language.now c.lemma_at-lemma.result.now.terms c.loop-i.space c.loop-i.names.items c.take_terms.new.space ns (Ok true)) (sym c.deref.ensures.value)
    (subst (λ (b : Bool). TakesTerms c.args.theory.language.now c.lemma_at-lemma.result.now.terms c.loop-i.space c.loop-i.names.items c.take_terms.new.space c.take_terms.new.names.items (Ok b)) c.if-not-good.false c.in_ok-good.ensures.takes))
    c.requires.theory c.in_ok-good.ensures.sorted

pub judge_lemma-requires-clause-limit : goal.judge_lemma-requires-clause-limit
judge_lemma-requires-clause-limit c = c.in_ok-good.ensures.few c.if-not-good.false

pub returns-in_err-clause-clause-answer : goal.returns-in_err-clause-clause-answer
returns-in_err-clause-clause-answer c = λ l t s.
    let q = err_from_is_err_and c.from_residual-in_err-clause.result c.from_residual-in_err-clause.ensures.1 in
    rw (q.1, q.2) (lemma_stops c.args.theory c.args.lemmas.now c.loop-i.i c.lemma_at-lemma.result.now c.args.space.now c.loop-i.space c.take_terms.new.space c.loop-i.names.items c.deref.result.now c.loop-i.held.clauses.items c.lemma_at-lemma.ensures c.loop-i.invariant.kept c.take_terms.ensures.kept c.loop-i.invariant.so_far
    (subst (λ (ns : List ℕ). TakesTerms c.args.theory.language.now c.lemma_at-lemma.result.now.terms c.loop-i.space c.loop-i.names.items c.take_terms.new.space ns (Ok true)) (sym c.deref.ensures.value)
    (subst (λ (b : Bool). TakesTerms c.args.theory.language.now c.lemma_at-lemma.result.now.terms c.loop-i.space c.loop-i.names.items c.take_terms.new.space c.take_terms.new.names.items (Ok b)) c.if-not-good.false c.in_ok-good.ensures.takes))
    c.in_ok-good.ensures.sorted c.judge_lemma.new.space _ c.in_err-clause.ensures.concludes l t s)

pub returns-in_err-clause-clause-kept : goal.returns-in_err-clause-clause-kept
returns-in_err-clause-clause-kept c = keeps_then c.loop-i.invariant.kept (keeps_then c.take_terms.ensures.kept c.judge_lemma.ensures.kept)

pub returns-in_err-add-clause-kept : goal.returns-in_err-add-clause-kept
returns-in_err-add-clause-kept c = keeps_then c.loop-i.invariant.kept (keeps_then c.take_terms.ensures.kept c.judge_lemma.ensures.kept)

pub loop-i-preserved : goal.loop-i-preserved
loop-i-preserved c = record {
  kept = keeps_then c.loop-i.invariant.kept (keeps_then c.take_terms.ensures.kept c.judge_lemma.ensures.kept);
  so_far = subst (λ (ns : List ℕ). LemmasTo c.args.theory c.args.lemmas.now (c.loop-i.i + 1) c.args.space.now c.judge_lemma.new.space ns c.add.new.self.clauses.items) c.deref.ensures.value
      (subst (λ (ks : List (Option (List Literal))). LemmasTo c.args.theory c.args.lemmas.now (c.loop-i.i + 1) c.args.space.now c.judge_lemma.new.space c.deref.result.now ks) (sym c.in_ok-add.ensures)
      (lemma_next c.args.theory c.args.lemmas.now c.loop-i.i c.lemma_at-lemma.result.now c.args.space.now c.loop-i.space c.take_terms.new.space c.loop-i.names.items c.deref.result.now c.loop-i.held.clauses.items c.lemma_at-lemma.ensures c.loop-i.invariant.kept c.take_terms.ensures.kept c.loop-i.invariant.so_far
      (subst (λ (ns : List ℕ). TakesTerms c.args.theory.language.now c.lemma_at-lemma.result.now.terms c.loop-i.space c.loop-i.names.items c.take_terms.new.space ns (Ok true)) (sym c.deref.ensures.value)
      (subst (λ (b : Bool). TakesTerms c.args.theory.language.now c.lemma_at-lemma.result.now.terms c.loop-i.space c.loop-i.names.items c.take_terms.new.space c.take_terms.new.names.items (Ok b)) c.if-not-good.false c.in_ok-good.ensures.takes))
      c.in_ok-good.ensures.sorted c.judge_lemma.new.space c.in_ok-clause.clause c.judge_lemma.ensures.released c.in_ok-clause.ensures.concludes));
}

pub returns-clause-answer : goal.returns-clause-answer
returns-clause-answer c = λ l t s.
    lemmas_end c.args.theory c.args.lemmas.now c.loop-i.i c.args.space.now c.loop-i.space c.loop-i.names.items c.loop-i.held (omega (arith, c.loop-i-test.false)) c.loop-i.invariant.so_far l t s
