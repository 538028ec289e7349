use Rattle.vcc_cli.proofs.Upgrading.{not_created, text_left}
use Rattle.vcc_cli.proofs.upgrade.write_text.Goals as goal

pub returns-in-Ok : goal.returns-in-Ok
returns-in-Ok g c =
    text_left _ (g.S.Store.contents c.create.new.self) _ c.args.name.now c.args.text.now _ (g.S.Store.write_faults c.create.new.self) _ c.in-Ok.ensures.ok c.in-Ok.ensures.never_falls
    c.append_all.result c.append_all.ensures.ok c.append_all.ensures.err c.append_all.ensures.missing c.append_all.ensures.failed

pub returns-in-Err : goal.returns-in-Err
returns-in-Err g c = not_created c.in-Err.fault _ _ c.args.name.now c.args.text.now _ _ c.in-Err.ensures.never_missing c.in-Err.ensures.failed c.in-Err.ensures.err
