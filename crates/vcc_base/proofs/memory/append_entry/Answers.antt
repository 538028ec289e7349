use Rattle.std.proofs.Common.{refl, ap, ◌∙◌}
use Rattle.std.specs.String.{string_bytes}
use Rattle.vcc_base.specs.declared.memory.Entry.{Entry}
use Rattle.vcc_base.proofs.Holding.{append_holds, pairs_same}
use Rattle.vcc_base.proofs.Outcomes.{on_err}
use Rattle.vcc_base.proofs.memory.append_entry.Goals as goal

pub returns-clause-ok : goal.returns-clause-ok
returns-clause-ok c = λ bytes held.
    append_holds _ _ _ c.index_mut-entry.result.now _ _ _ c.requires c.index_mut-entry.ensures.value refl c.in_ok-extend_from_slice.ensures.items held

pub returns-in_err-extend_from_slice-clause-err : goal.returns-in_err-extend_from_slice-clause-err
returns-in_err-extend_from_slice-clause-err c =
    on_err _ _ (pairs_same c.args.entries.now.items c.args.i c.index_mut-entry.result.now (record { name = c.index_mut-entry.result.now.name; bytes = c.extend_from_slice.new.self })
    (ap (λ (e : Entry). string_bytes e.name) c.index_mut-entry.ensures.value)
    (c.in_err-extend_from_slice.ensures.items ∙ ap (λ (e : Entry). e.bytes.items) c.index_mut-entry.ensures.value))
