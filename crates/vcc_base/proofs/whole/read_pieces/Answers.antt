use Rattle.std.proofs.Common.{◌≡◌, ◌++◌, take, ℕ, List, length, Ok, Err, sym, subst, ap, ◌∙◌, refl, arith}
use Rattle.vcc_base.specs.Limits.{number_of}
use Rattle.vcc_base.proofs.Reading.{Front, Says, front_none, front_more, says_missing, says_memory, says_failed, says_read}
use Rattle.vcc_base.specs.declared.whole.ReadFault.TheVariants as read
use Rattle.vcc_base.proofs.whole.read_pieces.Goals as goal

pub pieces-init : goal.pieces-init
pieces-init g c =
    let P : List ℕ → Type 0 = λ xs. Front (g.S.Store.contents c.args.store.now) c.args.name.now xs in
    record {
      within = omega (arith, ap length c.requires.empty);
      front = subst P (sym c.requires.empty) (front_none _ _);
      kept = refl;
      writes_stay = refl;
      never_falls = omega arith;
    }

pub pieces-preserved : goal.pieces-preserved
pieces-preserved g c =
    let P : List ℕ → Type 0 = λ xs. Front (g.S.Store.contents c.args.store.now) c.args.name.now xs in
    let at : c.len.result ≡ length c.pieces.bytes.items = c.len.ensures ∙ c.pieces.bytes.ok.0 in
    let front : P (c.pieces.bytes.items ++ take c.in-Ok.count c.read_at.new.piece) =
    front_more _ (g.S.Store.contents c.pieces.store) _ _ _ c.len.result c.in-Ok.count (length c.pieces.piece) c.pieces.invariant.kept at c.pieces.invariant.front c.in-Ok.ensures.bytes in
    let grown : c.extend_from_slice.new.self.items ≡ c.pieces.bytes.items ++ take c.in-Ok.count c.read_at.new.piece = grind arith in
    record {
      within = omega (arith, c.number.ensures, c.len-in-pieces.ensures, c.extend_from_slice.new.self.ok.0);
      front = subst P (sym grown) front;
      kept = cc c.in-Ok.ensures.kept;
      writes_stay = cc c.in-Ok.ensures.writes_stay;
      never_falls = omega (arith, c.in-Ok.ensures.never_falls);
    }

pub returns-in-Err-Missing : goal.returns-in-Err-Missing
returns-in-Err-Missing g c =
    let says : Says (g.S.Store.contents c.args.store.now) c.args.name.now c.pieces.bytes.items (number_of c.args.limit) (Err read.Missing) =
    says_missing _ (g.S.Store.contents c.pieces.store) _ _ _ c.pieces.invariant.kept (rw c.in-Err-Missing.field-0-is at c.in-Err-Missing.ensures.missing) in
    record {
      bytes = says.bytes;
      within = tt;
      missing = says.missing;
      absent = says.absent;
      too_long = says.too_long;
      failed = λ found. absurd (cc);
      never_falls = omega (arith, c.in-Err-Missing.ensures.never_falls);
      writes_stay = cc c.in-Err-Missing.ensures.writes_stay;
      kept = cc c.in-Err-Missing.ensures.kept;
    }

pub returns-in-Err-Failed : goal.returns-in-Err-Failed
returns-in-Err-Failed g c =
    let says : Says (g.S.Store.contents c.args.store.now) c.args.name.now c.pieces.bytes.items (number_of c.args.limit) (Err read.Failed) =
    says_failed _ (g.S.Store.contents c.pieces.store) _ _ _ c.pieces.invariant.kept (rw c.in-Err-Failed.field-0-is at c.in-Err-Failed.ensures.absent) in
    record {
      bytes = says.bytes;
      within = tt;
      missing = says.missing;
      absent = says.absent;
      too_long = says.too_long;
      failed = λ found. omega (arith, c.pieces.invariant.never_falls, (rw c.in-Err-Failed.field-0-is at c.in-Err-Failed.ensures.failed) refl);
      never_falls = omega (arith, c.in-Err-Failed.ensures.never_falls);
      writes_stay = cc c.in-Err-Failed.ensures.writes_stay;
      kept = cc c.in-Err-Failed.ensures.kept;
    }

pub returns-in-Err-OutOfMemory : goal.returns-in-Err-OutOfMemory
returns-in-Err-OutOfMemory g c =
    let says : Says (g.S.Store.contents c.args.store.now) c.args.name.now c.pieces.bytes.items (number_of c.args.limit) (Err read.OutOfMemory) =
    says_memory _ _ _ _ in
    record {
      bytes = says.bytes;
      within = tt;
      missing = says.missing;
      absent = says.absent;
      too_long = says.too_long;
      failed = λ found. absurd (cc);
      never_falls = omega (arith, c.in-Err-OutOfMemory.ensures.never_falls);
      writes_stay = cc c.in-Err-OutOfMemory.ensures.writes_stay;
      kept = cc c.in-Err-OutOfMemory.ensures.kept;
    }

pub returns-then-count-eq0 : goal.returns-then-count-eq0
returns-then-count-eq0 g c =
    let at : c.len.result ≡ length c.pieces.bytes.items = c.len.ensures ∙ c.pieces.bytes.ok.0 in
    let says : Says (g.S.Store.contents c.args.store.now) c.args.name.now c.pieces.bytes.items (number_of c.args.limit) (Ok tt) =
    says_read _ (g.S.Store.contents c.pieces.store) _ _ _ c.len.result c.in-Ok.count (length c.pieces.piece) _ c.pieces.invariant.kept at c.if-count-eq0.true (omega arith) c.in-Ok.ensures.absent c.pieces.invariant.front c.in-Ok.ensures.bytes in
    record {
      bytes = says.bytes;
      within = c.pieces.invariant.within;
      missing = says.missing;
      absent = says.absent;
      too_long = says.too_long;
      failed = λ found. absurd (cc);
      never_falls = omega (arith, c.in-Ok.ensures.never_falls);
      writes_stay = cc c.in-Ok.ensures.writes_stay;
      kept = cc c.in-Ok.ensures.kept;
    }
