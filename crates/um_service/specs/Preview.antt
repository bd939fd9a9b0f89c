-- What an act answers, worked out from the waiters in the order of service. Of each waiter only its thread, its priority and a number of
-- bytes matter.
use Rattle.std.specs.Prelude.{ℕ, ◌-◌, ◌==◌, min, if◌then◌else◌, List, [], ◌∷◌, length, map, int_lt}
use Rattle.um_base.specs.declared.ask.Waiter.{Waiter}
use Rattle.um_base.specs.declared.names.Reply.{Reply}
use Rattle.um_base.specs.declared.names.ThreadIx.{ThreadIx}
use Rattle.um_machine.specs.declared.served.Served.{Served}
use Rattle.um_machine.specs.Services.{Acted, in_order, read_length}
use Rattle.um_machine.specs.Serving.{served}
use Rattle.um_machine.specs.Table.{replies_of}
use Rattle.um_service.specs.declared.order.Queued.{Queued}
use Rattle.um_service.specs.declared.preview.Said.{Said}

-- what an act says
abbrev pub said : Acted → Said
said acted = record { answer = acted.answer; woken = replies_of acted.woken }

-- how many bytes a waiter reads, or has to write, among those who do so
abbrev pub amount : Served → Waiter → ℕ
amount Served.Readers w = read_length w.ask
amount Served.Writers w = length w.bytes
amount Served.All w = 0
amount Served.Getters w = 0
amount Served.Putters w = 0

abbrev pub queued : Served → Waiter → Queued
queued which w = record { thread = w.thread; priority = w.priority; amount = amount which w }

-- one goes before those that are served after it
abbrev pub with_queued : Queued → List Queued → List Queued
with_queued q [] = q ∷ []
with_queued q (v ∷ vs) = if int_lt v.priority q.priority then v ∷ with_queued q vs else q ∷ v ∷ vs

-- those whom an act serves, in the order of service
abbrev pub queue_of : Served → List Waiter → List Queued
queue_of which ws = map (queued which) (in_order (served which ws))

-- what the one that is served first is told, if there is one
abbrev pub first_told : List Queued → List (ThreadIx × Reply)
first_told [] = []
first_told (q ∷ qs) = (q.thread, Reply.Num 0) ∷ []

-- bytes, or room for them, are shared among those in a queue while some are left, and each is told its part
abbrev pub shares : List Queued → ℕ → List (ThreadIx × Reply)
shares [] n = []
shares (q ∷ qs) n = if n == 0 then [] else ((q.thread, Reply.Num (min q.amount n)) ∷ shares qs (n - min q.amount n))
