use Rattle.lock_conditions.proofs.Computed.{text_is_lock, labels_are_these, data_conditions, lock_conditions, initialize_lock_conditions, acquire_conditions, release_conditions, worker_conditions, main_conditions}
use Rattle.lock_conditions.proofs.laws.conditions_are_these.Goals as goal

pub returns : goal.returns
returns c =
    record {
      text = text_is_lock;
      labels = labels_are_these;
      data_type = data_conditions;
      lock_type = lock_conditions;
      initialize_lock = initialize_lock_conditions;
      acquire = acquire_conditions;
      release = release_conditions;
      worker = worker_conditions;
      main = main_conditions;
    }
