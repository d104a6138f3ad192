-- What proofs of other crates may cite of this one: its other lemmas are its own.

-- Which ids the words of sets have, whatever list they are given.
pub use Rattle.group_task.proofs.IdLaws.{all_others, either_others, few_others, has_below as has_ids_below, length_with_id, none_others}
pub use Rattle.group_task.proofs.IdLaws.{with_has_other, with_has_same, with_others, without_has_same, without_others}
-- Words of bits and rising lists stand for each other.
pub use Rattle.group_task.proofs.Words.{has-with_id, has-without_id, has_below, length-rising}
