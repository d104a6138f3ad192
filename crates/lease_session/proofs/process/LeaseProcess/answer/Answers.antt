use Rattle.lease_session.proofs.process.LeaseProcess.answer.Goals as goal

pub returns-clause-replies : goal.returns-clause-replies
returns-clause-replies c = λ none.
    let w = c.send.ensures.writes none in
    record { before = c.args.self.now.text.items; epoch = c.args.epoch; bytes = w.0; ends = w.2; carried = w.1 }
