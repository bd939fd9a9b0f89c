use Rattle.um_matrix.proofs.tables.Tables.puts_said.Goals as goal

pub returns-in-Load : goal.returns-in-Load
returns-in-Load c = rw c.in-Load.is (c.says_load.ensures c.args.x c.in-Load.to)

pub returns-in-Store : goal.returns-in-Store
returns-in-Store c = rw c.in-Store.is (c.says_store.ensures c.args.x)

pub returns-in-Fetch : goal.returns-in-Fetch
returns-in-Fetch c = rw c.in-Fetch.is (c.says_fetch.ensures c.args.x)

pub returns-in-CopyOut : goal.returns-in-CopyOut
returns-in-CopyOut c = rw c.in-CopyOut.is (c.says_copy_out.ensures c.args.x)

pub returns-in-Work : goal.returns-in-Work
returns-in-Work c = rw c.in-Work.is (c.says_work.ensures c.args.x)

pub returns-in-DomInit : goal.returns-in-DomInit
returns-in-DomInit c = rw c.in-DomInit.is (c.says_domain_init.ensures c.args.t c.args.x)

pub returns-in-DomAdd : goal.returns-in-DomAdd
returns-in-DomAdd c = rw c.in-DomAdd.is (c.says_domain_add.ensures c.args.t c.args.x)

pub returns-in-DomRemove : goal.returns-in-DomRemove
returns-in-DomRemove c = rw c.in-DomRemove.is (c.says_domain_remove.ensures c.args.t c.args.x)

pub returns-in-Tick : goal.returns-in-Tick
returns-in-Tick c = rw c.in-Tick.is (c.says_tick.ensures c.args.t c.args.x)

pub returns-in-Left : goal.returns-in-Left
returns-in-Left c = rw c.in-Left.is (c.says_left.ensures c.args.x)

pub returns-in-FutexWake : goal.returns-in-FutexWake
returns-in-FutexWake c = rw c.in-FutexWake.is (c.says_futex_wake.ensures c.args.x)
