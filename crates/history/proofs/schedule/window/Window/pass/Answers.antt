use Rattle.history.proofs.Lemmas.Windows.{passed}
use Rattle.history.proofs.schedule.window.Window.pass.Goals as goal

pub returns-clause-passed : goal.returns-clause-passed
returns-clause-passed c = λ front rest same is. passed c.args.self.now.bytes front rest c.args.self.now.start c.args.self.now.end c.args.count c.requires.held same is
