use Rattle.std.proofs.Common.{Bool, subst}
use Rattle.block_layout.specs.Loading.{PutsOwn}
use Rattle.block_layout.proofs.Spaces.{keeps_then, stays_then}
use Rattle.block_layout.proofs.Laying.{terms_past, terms_put}
use Rattle.block_layout.proofs.load.put_terms.Goals as goal

pub returns-in_err-stop-clause-kept : goal.returns-in_err-stop-clause-kept
returns-in_err-stop-clause-kept c = keeps_then c.put_own.ensures.kept c.put_added.ensures.kept

pub returns-clause-kept : goal.returns-clause-kept
returns-clause-kept c = keeps_then c.put_own.ensures.kept c.put_added.ensures.kept

pub returns-clause-sorted : goal.returns-clause-sorted
returns-clause-sorted c = stays_then c.in_ok-fits.ensures.sorted c.in_ok-stop.ensures.sorted

pub returns-clause-put : goal.returns-clause-put
returns-clause-put c =
    terms_put c.args.language.now c.args.own.now c.args.added.now c.args.space.now c.put_own.new.space c.put_added.new.space c.put_own.new.names.items c.put_added.new.names.items c.in_ok-stop.stop c.in_ok-fits.ensures.sorted
    (subst (λ (b : Bool). PutsOwn c.args.own.now c.put_own.new.space c.put_own.new.names.items b) c.if-not-fits.false c.in_ok-fits.ensures.put) c.in_ok-stop.ensures.put
