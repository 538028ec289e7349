use Rattle.std.proofs.Common.{◌≡◌, ap, sym, ◌∙◌, Some}
use Rattle.vcc_base.proofs.Holding.{found_none, found_bytes}
use Rattle.vcc_base.proofs.memory.bytes_of.Goals as goal

pub returns-in-Some : goal.returns-in-Some
returns-in-Some c =
    let all : c.as_slice.result.now ≡ c.index-entries-i.result.bytes.items = cc (c.as_slice.ensures.value, c.index-entries-i.is) in
    found_bytes _ _ _ c.index-entries-i.result c.in-Some.ensures c.index-entries-i.is ∙ sym (ap (λ xs. Some xs) all)

pub returns-in-None : goal.returns-in-None
returns-in-None c = found_none c.args.entries.now c.args.name.now c.in-None.ensures
