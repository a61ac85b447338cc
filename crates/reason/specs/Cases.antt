-- What each answer of the code stands for.
use Rattle.std.specs.Prelude.{Option, Some, None, Result, Ok, Err}
use Rattle.refusal.specs.Number.{number_of}
use Rattle.refusal.specs.declared.Refusal.{Refusal}
use Rattle.reason.specs.Columns as told
use Rattle.reason.specs.Reason as spec
use Rattle.reason.specs.declared.Count.{Count}
use Rattle.reason.specs.declared.Count.TheVariants as count
use Rattle.reason.specs.declared.Facts.{Facts}
use Rattle.reason.specs.declared.Facts.TheVariants as facts
use Rattle.reason.specs.declared.Reason.{Reason}

abbrev pub count_of : Count → spec.Count
count_of count.Unread = spec.unread
count_of (count.Plus n) = spec.plus n
count_of (count.Minus n) = spec.minus n

abbrev pub facts_of : Facts → spec.Facts
facts_of (facts.Bytes n) = spec.bytes n
facts_of (facts.Name n there) = spec.name n there
facts_of (facts.Passes had c) = spec.passes had c
facts_of (facts.Sum z d) = spec.sum z d

abbrev pub reason_of : Reason → spec.Reason
reason_of r =
    record {
      number = number_of r.refusal.0;
      place = r.refusal.1;
      run = r.run;
      begins = r.begins;
      count = count_of r.count;
      index = r.index;
      facts = facts_of r.facts;
    }

abbrev pub told_of : Result (Option Reason) Refusal → told.Told
told_of (Ok (Some r)) = told.because (reason_of r)
told_of (Ok None) = told.faultless
told_of (Err e) = told.refused (number_of e.0) e.1
