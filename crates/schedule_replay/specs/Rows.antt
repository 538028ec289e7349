-- Replays that were worked by hand: the lock program, whole, its main alone and past its end; a claimed object that is unwrapped; starts, false and unfit ones among them. Each is computed from the definitions.
use Rattle.std.specs.Prelude.{◌≡◌, ℕ, pos, true, false, List, ◌∷◌, [], ◌++◌, take, drop, codes, Some, refl}
use Rattle.std.specs.Fmt.{digits}
use Rattle.int_ranges.specs.declared.ctype.CType.TheVariants.{Int as SignedInt}
use Rattle.object_types.specs.declared.values.Value.{Value}
use Rattle.object_types.specs.declared.values.Value.TheVariants.{Int, Ref as Refers}
use Rattle.object_types.specs.References.{ref, same_ref}
use Rattle.object_types.specs.Sets.{is_in}
use Rattle.object_types.specs.Heap.{empty_heap, put, hand_over}
use Rattle.method.specs.declared.program.DeclaredType.TheVariants.{Integer, Object}
use Rattle.method.specs.declared.program.FieldInfo.{FieldInfo}
use Rattle.method.specs.declared.program.Program.{Program}
use Rattle.method.specs.Tables.{in_type}
use Rattle.method.specs.Invariants.{inv_holds}
use Rattle.method.specs.StableSet.{in_stable_set}
use Rattle.method.specs.Actions.{act}
use Rattle.method.specs.Machine.{Event, State, step, run}
use Rattle.method.specs.Trace.{Memory, vec, event, state_of}
use Rattle.method.specs.RowLock as lock
use Rattle.method.specs.RowClaimed as claimed
use Rattle.method.specs.RowStart as positive
use Rattle.schedule_format.specs.Schedules.{Schedule}
use Rattle.schedule_replay.specs.Pieces.{ref_text}
use Rattle.schedule_replay.specs.Records.{references, members_text, fields_from, content_text, heading_text, record_text, records_text}
use Rattle.schedule_replay.specs.ReplayText.{Clean, Stopped, WideAt, NoStart, ends, replay_from, replay_of}
use Rattle.schedule_replay.specs.Stages.{lines}

-- the steps of the lock program's main, which starts two threads
abbrev pub main_steps : List ℕ
main_steps = codes "1 t1 line 56\n2 t1 line 57\n3 t1 line 58\n4 t1 line 59\n5 t1 line 60\n6 t1 line 61\n7 t1 line 16\n8 t1 line 17\n9 t1 line 18\n10 t1 line 19\n11 t1 line 20\n12 t1 line 62\n13 t1 line 63\n14 t1 line 64\n15 t1 line 65\n16 t1 line 67\n"

-- the steps of the two threads, in turns, and what is left behind them
abbrev pub worker_steps : List ℕ
worker_steps = codes "17 t2 line 48\n18 t3 line 48\n19 t2 line 25\n20 t2 line 26\n21 t2 line 27\n22 t3 line 25\n23 t3 line 26\n24 t3 line 27\n25 t3 line 31\n26 t2 line 31\n27 t2 line 32\n28 t2 line 49\n29 t2 line 50\n30 t2 line 51\n31 t2 line 52\n32 t2 line 39\n33 t2 line 43\n34 t2 line 53\n35 t3 line 26\n36 t3 line 27\n37 t3 line 31\n38 t3 line 32\n39 t3 line 49\n40 t3 line 50\n41 t3 line 51\n42 t3 line 52\n43 t3 line 39\n44 t3 line 43\n45 t3 line 53\n"

abbrev pub last_records : List ℕ
last_records = codes "clean 45 steps\n2.1 closed t2 count 0 lists {4.1}\n2.2 closed t3 count 0 lists {4.1}\n3.1 closed 4.1 count 0 owns {} v=1\n4.1 closed t1 count 2 owns {3.1} locked=0 protected_obj=3.1\n"

abbrev pub schedule : List Event → Schedule
schedule events = record { arguments = []; events = events }

module _ (m : Memory) where
  -- the fields of the lock program by their names
  abbrev pub fields : List FieldInfo
  fields =
      record { name = vec m (codes "v"); of = 3; ty = Integer SignedInt; is_volatile = false; is_ghost = false; is_approved = false } ∷
      record { name = vec m (codes "locked"); of = 4; ty = Integer SignedInt; is_volatile = true; is_ghost = false; is_approved = false } ∷
      record { name = vec m (codes "protected_obj"); of = 4; ty = Object; is_volatile = false; is_ghost = true; is_approved = false } ∷ []

  abbrev pub program : Program
  program = record (lock.program m) { fields = vec m fields }

  pub main_row : replay_of program (schedule (take 16 (lock.events m))) ≡ ends (main_steps ++ codes "clean 16 steps\n2.1 closed t2 count 0 lists {4.1}\n2.2 closed t3 count 0 lists {4.1}\n3.1 closed 4.1 count 0 owns {} v=0\n4.1 closed t1 count 2 owns {3.1} locked=0 protected_obj=3.1\n") Clean
  unfolding digits replay_of replay_from ref_text references members_text fields_from content_text heading_text record_text records_text step act in_type same_ref put is_in inv_holds hand_over in_stable_set
  main_row = refl

  -- main, about to run
  abbrev pub begun : State
  begun = state_of program (lock.fn_main m) 4 empty_heap []

  -- main's steps, and what the two threads print behind them; the whole: proofs/LockRow
  pub main_lines : lines program 0 (take 16 (lock.events m)) begun ≡ Some main_steps
  unfolding digits step act in_type same_ref put is_in inv_holds hand_over in_stable_set
  main_lines = refl

  pub worker_row : replay_from program 16 (drop 16 (lock.events m)) (run program (take 16 (lock.events m)) begun) ≡ ends (worker_steps ++ last_records) Clean
  unfolding digits replay_from ref_text references members_text fields_from content_text heading_text record_text records_text step act in_type same_ref put is_in inv_holds hand_over in_stable_set
  worker_row = refl

  pub starts : replay_of program (schedule (lock.events m)) ≡ replay_from program 0 (take 16 (lock.events m) ++ drop 16 (lock.events m)) begun
  unfolding replay_of
  starts = refl

  -- thread 1 has ended behind event 16
  pub ended_row : replay_of program (schedule (take 16 (lock.events m) ++ event 1 [] ∷ [])) ≡ ends (main_steps ++ codes "17 t1 not enabled\n") Stopped
  unfolding digits replay_of replay_from step act in_type same_ref put is_in inv_holds hand_over in_stable_set
  ended_row = refl

  -- no lock is allocated
  pub short_row : replay_of program (schedule (event 1 (Int (pos 0) ∷ []) ∷ event 1 (Int (pos 1) ∷ Int (pos 5) ∷ []) ∷ event 1 [] ∷ event 1 [] ∷ [])) ≡ ends (codes "1 t1 line 56\n2 t1 line 57\n3 t1 line 58\n4 t1 line 67\nclean 4 steps\n3.1 open t1 count 0 owns {} v=5\n") Clean
  unfolding digits replay_of replay_from ref_text references members_text fields_from content_text heading_text record_text records_text step act in_type same_ref put is_in inv_holds hand_over in_stable_set
  short_row = refl

  pub empty_row : replay_of program (schedule []) ≡ ends (codes "clean 0 steps\n") Clean
  unfolding digits replay_of replay_from references records_text
  empty_row = refl

  -- the fifth event unwraps a claimed object
  pub claimed_row : replay_of (claimed.program m) (schedule (claimed.events m)) ≡ ends (codes "1 t1 line 3\n2 t1 line 4\n3 t1 line 5\n4 t1 line 6\n5 t1 line 7 fault Claimed\n") Stopped
  unfolding digits replay_of replay_from step act in_type same_ref put is_in inv_holds hand_over in_stable_set
  claimed_row = refl

  -- ---- starts: main(long long x, \object o) requires x > 0 in line 2, x != 5 in line 3; its writes list works out x * x * x

  abbrev from : Value → Schedule
  from x = record { arguments = x ∷ Refers (ref 3 1) ∷ []; events = event 1 [] ∷ [] }

  pub begun_row : replay_of (positive.program m) (from (Int (pos 7))) ≡ ends (codes "1 t1 line 5\nclean 1 steps\n") Clean
  unfolding digits replay_of replay_from references records_text step act in_type same_ref
  begun_row = refl

  pub false_clause_row : replay_of (positive.program m) (from (Int (pos 5))) ≡ ends (codes "0 t1 line 3 fault Requires\n") Stopped
  unfolding digits replay_of in_type same_ref
  false_clause_row = refl

  pub no_argument_row : replay_of (positive.program m) (schedule []) ≡ ends [] NoStart
  unfolding digits replay_of in_type same_ref
  no_argument_row = refl

  pub wide_row : replay_of (positive.program m) (from (Int (pos 4611686018427387904))) ≡ ends [] (WideAt (record { left = pos 21267647932558653966460912964485513216; right = pos 4611686018427387904 }))
  unfolding digits replay_of in_type same_ref
  wide_row = refl
