use Rattle.std.proofs.Common.{List, sym, subst, ap}
use Rattle.std.specs.String.{string_bytes}
use Rattle.vcc_base.specs.declared.memory.Entry.{Entry}
use Rattle.vcc_base.specs.Entries.{pairs}
use Rattle.vcc_base.specs.Maps.{Holds}
use Rattle.vcc_base.specs.Memory.{look_up}
use Rattle.vcc_base.proofs.Holding.{place_found, set_holds, push_holds}
use Rattle.vcc_base.proofs.memory.hold_entry.Goals as goal

pub returns-in-Some-clause-ok : goal.returns-in-Some-clause-ok
returns-in-Some-clause-ok c =
    set_holds _ _ _ c.index_mut-entry.result.now _ (place_found _ _ _ _ (cc (c.in-Some.ensures, c.as_slice.ensures.value))) (ap (λ (e : Entry). string_bytes e.name) c.index_mut-entry.ensures.value)

pub returns-in_ok-push-in-None-clause-ok : goal.returns-in_ok-push-in-None-clause-ok
returns-in_ok-push-in-None-clause-ok c =
    let P : List Entry → Type 0 = λ es. Holds (look_up (pairs c.args.entries.now.items)) (look_up (pairs es)) c.args.name.now c.args.bytes.items in
    subst P (sym c.in_ok-push-in-None.ensures.items) (push_holds _ _ _ (cc (c.in-None.ensures, c.as_slice.ensures.value)) c.in_ok-name-in-None.ensures.ok)
