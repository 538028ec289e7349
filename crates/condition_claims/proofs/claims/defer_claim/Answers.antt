use Rattle.condition_formulas.proofs.Rows.{none, same_ids}
use Rattle.condition_formulas.proofs.Symbolics.{is_reference}
use Rattle.condition_claims.proofs.Noted.{then_claim}
use Rattle.condition_claims.proofs.claims.defer_claim.Goals as goal

pub returns : goal.returns
returns c = λ ts d os q h es s hd hes hs. record {
  value_is = is_reference hd.claim_is;
  state_is = record {
    heap_is = hs.heap_is;
    locals_are = hs.locals_are;
    integers_is = hs.integers_is;
    references_is = hs.references_is;
    heaps_is = hs.heaps_is;
    changed_are = c.in_ok-defer.ensures ts s.changed os hs.changed_are hd.objects_are;
    made_are = then_claim hs.made_are (record { guards_are = same_ids c.new.ensures.items none; which_is = hd.claim_is; entries_are = hes }) c.in_ok-push.ensures.items;
  };
}
