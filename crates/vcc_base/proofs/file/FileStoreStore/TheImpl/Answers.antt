use Rattle.std.proofs.Common.{refl}
use Rattle.vcc_base.proofs.Outcomes.{on_ok, on_err}
use Rattle.vcc_base.proofs.file.FileStoreStore.TheImpl.Goals as goal

pub create-tells : goal.create-tells
create-tells g c =
    record {
      ok = on_ok _ _ tt;
      never_missing = c.ensures.never_missing;
      failed = c.ensures.failed;
      never_falls = c.ensures.never_falls;
      reads_stay = c.ensures.reads_stay;
      err = on_err _ _ refl;
    }

pub append-tells : goal.append-tells
append-tells g c =
    record {
      within = c.ensures.within;
      some = c.ensures.some;
      ok = tt;
      absent = tt;
      missing = λ is. absurd (c.ensures.never_missing is);
      failed = c.ensures.failed;
      never_falls = c.ensures.never_falls;
      reads_stay = c.ensures.reads_stay;
      err = on_err _ _ refl;
    }
