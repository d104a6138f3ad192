-- The fields of a schedule's lines. A number past the range of its type can't be read.
use Rattle.std.specs.Prelude.{ℕ, List, length, nat_lt, nat_le, Bool, false, if◌then◌else◌, Option, Some, None}
use Rattle.job_model.specs.declared.queue.TheConstants.{QUEUES}
use Rattle.job_model.specs.declared.payload.TheConstants.{PAYLOAD_CAPACITY}
use Rattle.group_task.specs.declared.node.TheConstants.{NODES}
use Rattle.line_words.specs.Words.{number_of}
use Rattle.line_words.specs.Lines.{bytes_of}

abbrev pub kept_if : {A : Type 0} → (A → Bool) → Option A → Option A
kept_if test None = None
kept_if test (Some x) = if test x then Some x else None

abbrev pub number_below : ℕ → List ℕ → Option ℕ
number_below limit word = kept_if (λ n. nat_lt n limit) (number_of word)

abbrev pub number_between : ℕ → ℕ → List ℕ → Option ℕ
number_between least most word = kept_if (λ n. if nat_le least n then nat_le n most else false) (number_of word)

abbrev pub node_of : List ℕ → Option ℕ
node_of word = number_below NODES word

abbrev pub queue_of : List ℕ → Option ℕ
queue_of word = number_below QUEUES word

-- a priority that is named isn't 0, which is left out
abbrev pub priority_of : List ℕ → Option ℕ
priority_of word = number_between 1 255 word

abbrev pub payload_of : List ℕ → Option (List ℕ)
payload_of word = kept_if (λ bytes. nat_le (length bytes) PAYLOAD_CAPACITY) (bytes_of word)
