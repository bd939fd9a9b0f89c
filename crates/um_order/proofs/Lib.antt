-- The law `one_order`, by induction over the steps of a fine run by one processor. A point of the order (`Point` of um_invariants) goes along with them:
-- a step that shows an event leads to a point at which that event follows, and any other step leaves the point as it is.
--
-- Standing: how the processor and the scheduler's cell relate to the point; ArmingOrder: how the marks of the clock do. FirstPoint: they do so at the
-- opening. CleanNow: when no cleaning step is lawful. ReadyLines: lists of threads. ListShapes: the processor's list of steps after a step; ListCalm:
-- which kinds of steps are on it, and whom it cuts. EventLines: the ready list after an event; RousedLines: where one is roused.
--
-- Steps that show no event: QuietSteps, of a turn that has begun, and TurnEnds, of one that ends (ParkedThreads: where threads lie that rest or wait);
-- TakeSteps, of threads that are taken and put away, and of marks that are given; LookSteps, of looks and rouses, with the cut. Follow: what makes an
-- event follow. NextSteps and Reserves: it is its thread's next step, with the least row. The events: ShowSteps, of pending steps (ShownLists: what
-- stands on the list behind one), and ArmOrder, of deadlines; StirOrder, StopOrder and AbortOrder, of those that stop or continue a thread (NotedBusy:
-- one with a note isn't at rest); LeaveOrder, of an end that is told; VisitOrder and CleanOrder, of permissions and cleanings; TakeOrder, of woken
-- threads; TickOrder, HandOrder and TimedOutOrder, of time. FullFacts, FullKept and BesideFull: which permissions stay due. Settled: all marks are,
-- where the processor has no list. OneKnown and OneStep: any step; OneKept: what goes along; OneRuns: runs.
--
-- What one processor keeps beside that: OneAct, ThreadsMoved, CallsMoved and CallsKept, of the steps that are left of calls, where at most one thread is
-- within one (OneWithin); CutNow, of whom the point is to cut; MarksNow, of marks that come too late; LastMade, of who made the last event; ServedAll
-- and WaitersStand, of who waits; ReadsWord, of words that are read again; InitShapes, InitsKept, InitLeft and MidCall, of objects that a creation
-- marks. KeptSteps has all of it. KnownStirs, KnownWaits and JoinLeast: what follows of a step.
mod CleanNow
mod ArmingOrder
mod Standing
mod ReadyLines
mod FirstPoint
mod ListShapes
mod ListCalm
mod ParkedThreads
mod TurnEnds
mod QuietSteps
mod EventLines
mod NextSteps
mod Follow
mod ShownLists
mod ShowSteps
mod ArmOrder
mod LeaveOrder
mod RousedLines
mod StirOrder
mod StopOrder
mod NotedBusy
mod AbortOrder
mod LookSteps
mod VisitOrder
mod CleanOrder
mod TakeSteps
mod TakeOrder
mod TickOrder
mod HandOrder
mod TimedOutOrder
mod Reserves
mod Settled
mod FullFacts
mod FullKept
mod BesideFull
mod OneKnown
mod OneStep
mod OneAct
mod ThreadsMoved
mod CallsMoved
mod CallsKept
mod OneWithin
mod CutNow
mod MarksNow
mod LastMade
mod ServedAll
mod WaitersStand
mod ReadsWord
mod KnownStirs
mod KnownWaits
mod InitShapes
mod InitsKept
mod InitLeft
mod MidCall
mod JoinLeast
mod KeptSteps
mod OneKept
mod OneRuns
