-- What each call answers, and the world after it.
use Rattle.std.specs.Prelude.{ℕ, ◌+◌, ◌-◌, ◌%◌, ◌^◌, Bool, true, false, cond, List, [], length, Some, None, Ok, Err, Option, Result, ◌==◌, nat_le, nat_lt}
use Rattle.terms.specs.declared.Request.{Request}
use Rattle.terms.specs.declared.Entry.{Entry}
use Rattle.terms.specs.declared.Key.{Key}
use Rattle.participants.specs.Party.{Party, Answer, do_answer, do_after, undo_after, settle_after}
use Rattle.bank.specs.declared.bank.Bank.{Ghosts as BankMeans}
use Rattle.bank.specs.Banks.{count_of, party_at, change_at}
use Rattle.record.specs.declared.Record.{Record}
use Rattle.law.specs.Outcomes.{Outcome}
use Rattle.law.specs.declared.event.Aim.{Aim}
use Rattle.law.specs.declared.event.Aim.TheVariants.{Stepping, Retreating, Finishing}
use Rattle.law.specs.declared.event.Phase.{Phase}
use Rattle.law.specs.declared.event.Phase.TheVariants.{Running, Pending, Closed}
use Rattle.law.specs.declared.event.Step.{Step}
use Rattle.law.specs.declared.event.Event.{Event}
use Rattle.law.specs.declared.event.Event.TheVariants.{Begin, Intent, Done, Refused, Mark, Join, Back, Undone, Finish, Settled}
use Rattle.law.specs.declared.table.View.{View}
use Rattle.law.specs.Sagas.{Sagas, sagas, reading, owed}
use Rattle.law.specs.Views.{view}
use Rattle.runner.specs.Memories.{Memory}
use Rattle.runner.specs.declared.fault.RunnerFault.{RunnerFault}
use Rattle.runner.specs.declared.fault.RunnerFault.TheVariants.{SagaNumber, NoParticipant, UnlawfulRecord, ShortOfPlaces, Unread, StillStepping, NumberNotAbove, TooManyOpen, NoRoom, WrongPhase, LimitReached, WrongMarks}
use Rattle.runner.specs.declared.ticket.Ticket.{Ticket}
use Rattle.runner.specs.declared.waiting.Waiting.{Waiting}
use Rattle.runner.specs.declared.declined.Declined.{Declined}
use Rattle.runner.specs.declared.declined.Declined.TheVariants.{Returned, Spent}
use Rattle.runner.specs.declared.ticket.Numbers.{Numbers}
use Rattle.runner.specs.declared.progress.Progress.{Progress}
use Rattle.runner.specs.declared.progress.Progress.TheVariants.{Called, Recorded}
use Rattle.runner.specs.Slips.{ticket_of, slip_of, ready_of}
use Rattle.runner.specs.Worlds.{World, JournalMeans, lacks, written, on_open, on_running, on_saga, if_running, with_memory}

-- a new runner has read nothing
abbrev pub unread_world : List Record → ℕ → List Party → World
unread_world rs n ps = record { table = sagas 0 []; ready = false; restarts = 0; records = rs; capacity = n; parties = ps }

-- the world of a new runner on this journal and this bank, by what they mean
abbrev pub new_world : {J B : Type 0} → JournalMeans J → BankMeans B → J → B → World
new_world means known journal bank = unread_world (means.records journal) (means.capacity journal) (known.parties bank)

-- restart: 22, 23; the count of restarts rises in any case, and wraps
abbrev pub started : World → Bool → Sagas Memory → World
started w b t = record { table = t; ready = b; restarts = (w.restarts + 1) % 2 ^ 64; records = w.records; capacity = w.capacity; parties = w.parties }

abbrev pub restart_by : World → Result (Sagas Memory) ℕ → Result ℕ RunnerFault × World
restart_by w (Err i) = (Err (UnlawfulRecord i), started w false (sagas 0 []))
restart_by w (Ok t) = cond (nat_lt (w.capacity - length w.records) (owed t)) (Err ShortOfPlaces, started w false (sagas 0 [])) (Ok (length t.rows), started w true t)

abbrev pub restarted : World → Result ℕ RunnerFault × World
restarted w = restart_by w (reading (count_of w.parties) None w.records)

-- begin: 30, 20, 33, 34, 35
abbrev pub begin_by : ℕ → ℕ → Result Unit RunnerFault × World → Result Ticket RunnerFault × World
begin_by s k (Ok x, w) = (Ok (ticket_of s k), w)
begin_by s k (Err f, w) = (Err f, w)

abbrev pub opened : ℕ → World → Result Ticket RunnerFault × World
opened s w =
    cond w.ready (
    cond (s == 0) (Err SagaNumber, w) (
    cond (nat_lt 1000000 s) (Err SagaNumber, w) (
    cond (nat_le s w.table.top) (Err NumberNotAbove, w) (
    cond (nat_le 8 (length w.table.rows)) (Err TooManyOpen, w) (
    cond (lacks 2 w) (Err NoRoom, w) (
    begin_by s w.restarts (written s Begin w))))))) (Err Unread, w)

-- step: 30, 32, 36, 37, 21, 35
abbrev pub step_by : Ticket → Result Unit RunnerFault × World → Result Waiting (Ticket × RunnerFault) × World
step_by t (Ok x, w) = (Ok (slip_of t), w)
step_by t (Err f, w) = (Err (t, f), w)

abbrev pub step_of : ℕ → ℕ → Request → Step
step_of n p q = record { number = n; participant = p; request = q }

abbrev pub issue_in : Numbers → ℕ → Request → World → View Memory → Result Unit RunnerFault × World
issue_in n p q w seen =
    cond (nat_le 32 seen.last) (Err LimitReached, w) (
    cond (p == 0) (Err NoParticipant, w) (
    cond (nat_lt (count_of w.parties) p) (Err NoParticipant, w) (
    cond (lacks 3 w) (Err NoRoom, w) (
    written n.saga (Intent (step_of (seen.last + 1) p q)) w))))

abbrev pub issued : Numbers → ℕ → Request → World → Result Unit RunnerFault × World
issued n p q w = on_running w n.saga n.restart (λ f. (Err f, w)) (issue_in n p q w)

abbrev pub stepped : Ticket → ℕ → Request → World → Result Waiting (Ticket × RunnerFault) × World
stepped t p q w = step_by t (issued t.numbers p q w)

-- mark: 30, 32, 36, 37, 35
abbrev pub mark_in : Ticket → World → View Memory → Result Unit RunnerFault × World
mark_in t w seen =
    cond (nat_le 8 seen.marks) (Err LimitReached, w) (
    cond (lacks 1 w) (Err NoRoom, w) (
    written t.numbers.saga Mark w))

abbrev pub marked : Ticket → World → Result Unit RunnerFault × World
marked t w = on_running w t.numbers.saga t.numbers.restart (λ f. (Err f, w)) (mark_in t w)

-- join: 30, 32, 36, 38, 35
abbrev pub join_in : Ticket → World → View Memory → Result Unit RunnerFault × World
join_in t w seen =
    cond (seen.marks == 0) (Err WrongMarks, w) (
    cond (lacks 1 w) (Err NoRoom, w) (
    written t.numbers.saga Join w))

abbrev pub joined : Ticket → World → Result Unit RunnerFault × World
joined t w = on_running w t.numbers.saga t.numbers.restart (λ f. (Err f, w)) (join_in t w)

-- back: 30, 32, 36, 38, 35
abbrev pub back_in : Ticket → ℕ → World → View Memory → Result Unit RunnerFault × World
back_in t d w seen =
    cond (d == 0) (Err WrongMarks, w) (
    cond (nat_lt seen.marks d) (Err WrongMarks, w) (
    cond (lacks 1 w) (Err NoRoom, w) (
    written t.numbers.saga (Back d) w)))

abbrev pub backed : Ticket → ℕ → World → Result Unit RunnerFault × World
backed t d w = on_running w t.numbers.saga t.numbers.restart (λ f. (Err f, w)) (back_in t d w)

abbrev pub end_by : Ticket → Result Unit RunnerFault × World → Result Unit (Declined Ticket) × World
end_by t (Ok x, w) = (Ok tt, w)
end_by t (Err f, w) = (Err (Returned t f), w)

-- finish: 30, 32, 36, 38; the first two spend the ticket
abbrev pub finish_in : Ticket → World → View Memory → Result Unit (Declined Ticket) × World
finish_in t w seen =
    if_running seen.phase (
    cond (seen.marks == 0) (end_by t (written t.numbers.saga Finish w)) (Err (Returned t WrongMarks), w)) (Err (Returned t WrongPhase), w)

abbrev pub finished : Ticket → World → Result Unit (Declined Ticket) × World
finished t w = on_open w t.numbers.saga t.numbers.restart (λ f. (Err (Spent f), w)) (finish_in t w)

-- cancel: 30, 32, 36; the first two spend the ticket
abbrev pub cancel_in : Ticket → World → View Memory → Result Unit (Declined Ticket) × World
cancel_in t w seen = if_running seen.phase (end_by t (written t.numbers.saga (Back 0) w)) (Err (Returned t WrongPhase), w)

abbrev pub cancelled : Ticket → World → Result Unit (Declined Ticket) × World
cancelled t w = on_open w t.numbers.saga t.numbers.restart (λ f. (Err (Spent f), w)) (cancel_in t w)

-- a step that stood already is done
abbrev pub outcome_of : Answer → Outcome
outcome_of (Ok a) = Ok tt
outcome_of (Err r) = Err r

abbrev pub key_of : ℕ → Step → Key
key_of s t = record { saga = s; step = t.number }

abbrev pub entry_of : ℕ → Step → Entry
entry_of s t = record { key = key_of s t; request = t.request }

-- the call that the law has next: do, undo or settle of the pending step
abbrev pub asked_answer : Aim → List Party → ℕ → Step → Outcome
asked_answer Stepping ps s t = outcome_of (do_answer (party_at ps t.participant) (entry_of s t))
asked_answer (Retreating g d) ps s t = (Ok tt)
asked_answer Finishing ps s t = (Ok tt)

abbrev pub asked_after : Aim → List Party → ℕ → Step → List Party
asked_after Stepping ps s t = change_at ps t.participant (λ p. do_after p (entry_of s t))
asked_after (Retreating g d) ps s t = change_at ps t.participant (λ p. undo_after p (key_of s t))
asked_after Finishing ps s t = change_at ps t.participant (λ p. settle_after p (key_of s t))

-- the record that tells of it
abbrev pub event_for : Aim → Step → Outcome → Event
event_for Stepping t (Ok z) = Done t.number
event_for Stepping t (Err c) = Refused t.number c
event_for (Retreating g d) t x = Undone t.number
event_for Finishing t x = Settled t.number

abbrev pub with_parties : List Party → World → World
with_parties ps w = record { table = w.table; ready = w.ready; restarts = w.restarts; records = w.records; capacity = w.capacity; parties = ps }

abbrev pub record_by : ℕ → Result Unit RunnerFault × World → Result Progress RunnerFault × World
record_by s (Ok x, w) = (Ok Recorded, with_memory s None w)
record_by s (Err f, w) = (Err f, w)

-- the number of what an advance did
abbrev pub progress_number : Progress → ℕ
progress_number Called = 1
progress_number Recorded = 2

-- advance: 30, 32, 36; the call, and then the record
abbrev pub advance_by : ℕ → World → Phase → Memory → Result Progress RunnerFault × World
advance_by s w Running m = (Err WrongPhase, w)
advance_by s w Closed m = (Err WrongPhase, w)
advance_by s w (Pending a t) None = (Ok Called, with_memory s (Some (asked_answer a w.parties s t)) (with_parties (asked_after a w.parties s t) w))
advance_by s w (Pending a t) (Some x) = record_by s (written s (event_for a t x) w)

abbrev pub advanced : ℕ → World → Result Progress RunnerFault × World
advanced s w = on_saga w s (λ f. (Err f, w)) (λ seen. advance_by s w seen.phase seen.note)

-- answer: 30, 32, 31; the first two spend the slip
abbrev pub answer_in : Waiting → View Memory → Phase → Result (Ticket × Outcome) (Declined Waiting)
answer_in t seen Running = Ok (ready_of t, seen.outcome)
answer_in t seen Closed = Ok (ready_of t, seen.outcome)
answer_in t seen (Pending Stepping u) = Err (Returned t StillStepping)
answer_in t seen (Pending (Retreating g d) u) = Ok (ready_of t, seen.outcome)
answer_in t seen (Pending Finishing u) = Ok (ready_of t, seen.outcome)

abbrev pub answered : Waiting → World → Result (Ticket × Outcome) (Declined Waiting)
answered t w = on_open w t.numbers.saga t.numbers.restart (λ f. Err (Spent f)) (λ seen. answer_in t seen seen.phase)

-- the phase of an open saga, none while the journal is not read
abbrev pub phase_in : Option (View Memory) → Option Phase
phase_in None = None
phase_in (Some seen) = Some seen.phase

abbrev pub phase_read : ℕ → World → Option Phase
phase_read s w = cond w.ready (phase_in (view s w.table)) None
