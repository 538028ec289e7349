-- Programs that meet the premises of the laws. Own.
use Rattle.method.specs.Trace.{Memory}
use Rattle.conditions.specs.Rows.{store_program}
use Rattle.safe_counter.specs.Shared.{program}
use Rattle.conditions_law.specs.Texts.{IsVerifiable}

-- a program of two threads that write one object: it has an invariant over two states, a wrap, atomic blocks, a claim and a new thread
abbrev pub SharedIsVerifiable : Type 0
SharedIsVerifiable = (m : Memory) → IsVerifiable (program m)

-- a function with a contract and a store
abbrev pub StoreIsVerifiable : Type 0
StoreIsVerifiable = (m : Memory) → IsVerifiable (store_program m)
