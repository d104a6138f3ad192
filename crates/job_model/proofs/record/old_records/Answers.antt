use Rattle.std.proofs.Common.{ap}
use Rattle.std.specs.Option.{option_map}
use Rattle.job_model.specs.Records.{record_of}
use Rattle.job_model.specs.declared.record.Record.TheVariants.{Put, Keep}
use Rattle.job_model.proofs.RecordBytes.{old_job_of-old_job_bytes}
use Rattle.job_model.proofs.record.old_records.Goals as goal

pub returns : goal.returns
unfolding record_of
returns c = λ job h. (
  ap (option_map Put) (old_job_of-old_job_bytes 1 job h.id h.queue h.payload h.priority),
  ap (option_map Keep) (old_job_of-old_job_bytes 4 job h.id h.queue h.payload h.priority),
)
