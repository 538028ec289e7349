use Rattle.std.proofs.Common.{refl}
use Rattle.vcc_base.proofs.Outcomes.{if_ok, on_err}
use Rattle.vcc_base.proofs.file.OutSinkSink.TheImpl.Goals as goal

pub put-tells : goal.put-tells
put-tells g c =
    record {
      within = c.ensures.within;
      some = c.ensures.some;
      ok = if_ok c.result _ (λ n. tt);
      failed = c.ensures.failed;
      never_falls = c.ensures.never_falls;
      err = on_err _ _ refl;
    }
