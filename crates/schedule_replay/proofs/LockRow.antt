-- The replay of the lock program along its 45 events, whole.
use Rattle.std.proofs.Common.{◌≡◌, ◌++◌, take, drop, ap, ◌∙◌}
use Rattle.method.specs.Trace.{Memory}
use Rattle.method.specs.RowLock as lock
use Rattle.schedule_replay.specs.ReplayText.{Clean, ends, goes_on, replay_of}
use Rattle.schedule_replay.specs.Rows.{main_steps, worker_steps, last_records, schedule, program, begun, main_lines, worker_row, starts}
use Rattle.schedule_replay.proofs.Stages.{continues}

pub lock_row : (m : Memory) → replay_of (program m) (schedule (lock.events m)) ≡ ends (main_steps ++ (worker_steps ++ last_records)) Clean
lock_row m = starts m ∙ (continues (program m) 0 (take 16 (lock.events m)) (drop 16 (lock.events m)) (begun m) main_steps (main_lines m) ∙ ap (goes_on main_steps) (worker_row m))
