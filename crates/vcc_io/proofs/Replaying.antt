-- What a replay that gave no answer comes to.
use Rattle.std.proofs.Common.{◌≡◌, inl, inr, ℕ, ◌<◌, ◌≤◌, Bool, List, take, drop, Option, Err, IsErrOf, refl, sym, ap, subst, ◌∙◌, arith}
use Rattle.std.proofs.lemmas.List.{take-append-drop}
use Rattle.vcc_base.specs.Maps.{NowWritten, FrontWritten}
use Rattle.vcc_base.specs.declared.sink.SinkFault.TheVariants as sink
use Rattle.vcc_base.proofs.Printing.{then_written, is_written, is_front, front_first, front_more}
use Rattle.schedule_format.specs.Schedules.{Schedule}
use Rattle.schedule_replay.specs.declared.fault.ReplayFault.{ReplayFault}
use Rattle.schedule_replay.specs.declared.fault.ReplayFault.TheVariants as replay
use Rattle.schedule_replay.specs.Answers.{Answers}
use Rattle.schedule_replay.specs.ReplayText.{Replay, Ending, WideAt, NoStart}
use Rattle.vcc_io.specs.declared.refusal.Refusal.{Refusal}
use Rattle.vcc_io.specs.declared.refusal.Refusal.TheVariants.{ReadFault, BadArgs, Wide, Exhausted, OutOfMemory}
use Rattle.vcc_io.specs.Faults.{IsReadFault}
use Rattle.vcc_io.specs.Lines.{IsReported, line_of, status_of, wrote}
use Rattle.vcc_io.specs.Replays.{IsNoSchedule, IsPrinted, BreaksOff, IsReplayedOr, IsStop, last_line, replay_status, printed}

-- a schedule is refused for no read
pub no_read_fault : (bytes : List ℕ) (r : Refusal) → IsNoSchedule bytes r → IsReadFault {X = Schedule} (Err r) → ⊥
no_read_fault bytes (ReadFault n) x is = x
no_read_fault bytes _ x is = is

module _ (r : Replay) (a b c : ℕ) (old middle new : Option (List ℕ)) (status : ℕ) (kept : a ≤ b) where
  -- the replay ends, and its last line is that of a refusal
  ends_so : (refusal : Refusal) (ending : Ending) → r.ending ≡ ending → line_of (Err refusal) ≡ last_line ending → status_of (Err refusal) ≡ replay_status ending → NowWritten old middle r.text → IsReported (Err refusal) (wrote b c middle new) status → IsPrinted r (wrote a c old new) status
  ends_so refusal ending is text same first (inl reported) =
      inl (reported.0 ∙ (same ∙ ap replay_status (sym is)), then_written old middle new r.text (last_line r.ending) first (is_written middle new (line_of (Err refusal)) (last_line r.ending) (text ∙ ap last_line (sym is)) reported.1))
  ends_so refusal ending is text same first (inr (inl failed)) =
      let rose : b < c = failed.1 in
      inr (inl (failed.0, omega (arith, kept, rose), front_more old middle new r.text (last_line r.ending) first (is_front middle new (line_of (Err refusal)) (last_line r.ending) (text ∙ ap last_line (sym is)) failed.2)))
  ends_so refusal ending is text same first (inr (inr wanting)) =
      inr (inr (wanting.0, front_more old middle new r.text (last_line r.ending) first (is_front middle new (line_of (Err refusal)) (last_line r.ending) (text ∙ ap last_line (sym is)) wanting.1)))

  -- the refusal is reported behind a front of the replay's text
  breaks_off : (refusal : Refusal) → FrontWritten old middle r.text → IsReported (Err refusal) (wrote b c middle new) status → BreaksOff r refusal (wrote a c old new) status
  breaks_off refusal (n, fits, front) reported = record { front = take n r.text; rest = drop n r.text; text = take-append-drop n r.text; middle = middle; written = front; reported = rises reported }
    where
      rises : IsReported (Err refusal) (wrote b c middle new) status → IsReported (Err refusal) (wrote a c middle new) status
      rises (inl x) = inl x
      rises (inr (inl failed)) = let rose : b < c = failed.1 in inr (inl (failed.0, omega (arith, kept, rose), failed.2))
      rises (inr (inr x)) = inr (inr x)

pub stops : (U : Type 0) (fault : ReplayFault) (r : Replay) (a b c : ℕ) (old middle new : Option (List ℕ)) (status : ℕ) → Answers (Err fault) r old middle → (IsErrOf {T = Bool} (Err fault) replay.Exhausted → U) → (IsErrOf {T = Bool} (Err fault) (replay.Sink sink.Failed) → a < b) → a ≤ b → IsStop fault (wrote b c middle new) status → IsReplayedOr U r (wrote a c old new) status
stops U replay.BadArgs r a b c old middle new status answers exhausted failed kept stop = inl (ends_so r a b c old middle new status kept BadArgs NoStart answers.0 refl refl answers.1 stop)
stops U (replay.Wide w) r a b c old middle new status answers exhausted failed kept stop = inl (ends_so r a b c old middle new status kept (Wide w) (WideAt (record { left = w.a; right = w.b })) answers.0 refl refl answers.1 stop)
stops U replay.Exhausted r a b c old middle new status answers exhausted failed kept stop = inr (inr (exhausted refl, breaks_off r a b c old middle new status kept Exhausted answers stop))
stops U replay.OutOfMemory r a b c old middle new status answers exhausted failed kept stop = inr (inl (breaks_off r a b c old middle new status kept OutOfMemory answers stop))
stops U (replay.Sink sink.Failed) r a b c old middle new status answers exhausted failed kept (seven, still) =
    let rose : a < b = failed refl in
    let more : c ≡ b = still.1 in
    inl (inr (inl (seven, omega (arith, rose, more), subst (λ (o : Option (List ℕ)). FrontWritten old o (printed r)) (sym still.0) (front_first old middle r.text (last_line r.ending) answers))))
stops U (replay.Sink sink.OutOfMemory) r a b c old middle new status answers exhausted failed kept (eight, still) =
    inl (inr (inr (eight, subst (λ (o : Option (List ℕ)). FrontWritten old o (printed r)) (sym still.0) (front_first old middle r.text (last_line r.ending) answers))))
