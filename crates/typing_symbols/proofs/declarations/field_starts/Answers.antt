use Rattle.std.proofs.Common.{◌≡◌, ◌+◌, ◌++◌, [], ◌∷◌, length, ap, sym, ◌∙◌, arith, rules}
use Rattle.std.proofs.lemmas.List.{length-map}
use Rattle.c_syntax.specs.Views as view
use Rattle.typing_symbols.proofs.Counts.{one_more_start, one_more_count}
use Rattle.typing_symbols.proofs.declarations.field_starts.Goals as goal

pub loop-entry-preserved : goal.loop-entry-preserved
loop-entry-preserved c =
    let l = c.loop-entry in
    let more : c.in-Some.more ≡ l.count + length c.fields.result.now = search rules in
    record {
      so_far = c.in_ok-push.ensures.items ∙ one_more_start (λ s. s.tree.now) c.args.entries.now l.entry-index c.entry-item.result l.all.items l.count (omega arith) c.entry-item.is l.invariant.so_far l.invariant.counts;
      counts = one_more_count (λ s. s.tree.now) c.args.entries.now l.entry-index c.entry-item.result l.count c.in-Some.more (length c.fields.result.now) (omega arith) c.entry-item.is l.invariant.counts (sym (length-map c.fields.result.now (λ f. view.field f.now)) ∙ ap length c.fields.ensures) more;
    }
