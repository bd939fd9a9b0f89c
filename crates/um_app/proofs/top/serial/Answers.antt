use Rattle.std.proofs.Common.{◌≡◌, ◌∙◌, sym, rules, Some, map}
use Rattle.std.specs.Prelude.{IsTrue, string_bytes}
use Rattle.um_command.specs.Words.{command_of}
use Rattle.um_app.specs.Inputs.{is_reading}
use Rattle.um_app.proofs.CommandLemmas.{not-generated, not-none, same-command, answers-reading}
use Rattle.um_app.proofs.top.serial.Goals as goal

pub returns-in-Some : goal.returns-in-Some
returns-in-Some g c =
    let end = c.described.ensures in
    let command = c.in-Some.command in
    let is : command_of (map string_bytes c.args.words.now) ≡ Some command = sym c.read_command.ensures.command ∙ c.in-Some.is in
    let reading : IsTrue (is_reading command) = search rules in
    record {
      done = λ e. let d = end.done e in (command, is, d.0, answers-reading command _ _ d.0 reading d.1, d.2);
      done_quiet = end.done_quiet;
      complete = λ other found reads. rw (same-command _ other command found is) end.complete;
      generates = λ number found no_write. absurd (not-generated _ command number reading is found);
      usage = (λ e. absurd (end.no_usage e), λ none. absurd (not-none _ command is none));
      nothing_read = λ e. absurd (end.no_usage e);
      reads_none = λ number found. absurd (not-generated _ command number reading is found);
      read_fault = end.read_fault;
      too_long = λ e. (command, is, end.too_long e);
      exceeds = λ other found reads. rw (same-command _ other command found is) end.exceeds;
      within = λ other found reads. rw (same-command _ other command found is) end.within;
      refused = λ e. let d = end.refused e in (command, is, d.0, d.1, d.2, d.3, d.4);
      refuses = λ other found reads. rw (same-command _ other command found is) end.refuses;
      write_fault = end.write_fault;
      front = λ e. let d = end.front e in (command, is, d.0, answers-reading command _ _ d.0 reading d.1, d.2, d.3);
      nothing_written = end.nothing_written;
      told = end.told;
      source_most = end.source_most;
    }
