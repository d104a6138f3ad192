use Rattle.histories.proofs.OneBooks.{one_book}
use Rattle.histories.proofs.laws.one_book.Goals as goal

pub returns : goal.returns
returns c = one_book
