use Rattle.agreement.proofs.Causes.{answered}
use Rattle.panel.proofs.panel.Panel.call.Goals as goal

pub returns-in-Propose : goal.returns-in-Propose
returns-in-Propose g c = answered _ _ _ _ c.in-Propose.is c.propose.ensures

pub returns-in-Recover : goal.returns-in-Recover
returns-in-Recover g c = answered _ _ _ _ c.in-Recover.is c.recover.ensures

pub returns-in-Look : goal.returns-in-Look
returns-in-Look g c = answered _ _ _ _ c.in-Look.is c.look.ensures

pub returns-in-Deliver : goal.returns-in-Deliver
returns-in-Deliver g c = answered _ _ _ _ c.in-Deliver.is c.deliver.ensures

pub returns-in-Again : goal.returns-in-Again
returns-in-Again g c = answered _ _ _ _ c.in-Again.is c.again.ensures

pub returns-in-Crash : goal.returns-in-Crash
returns-in-Crash g c = answered _ _ _ _ c.in-Crash.is (c.crash.ensures c.args.tray.now)
