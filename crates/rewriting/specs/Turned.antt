-- What the private functions' counts of a boolean column stand for.
use Rattle.encoding.specs.Cases.{answer_of}
use Rattle.rewriting.specs.Turning.{Turns, turns}
use Rattle.rewriting.specs.declared.turns.Turner.{Turner}

abbrev pub turns_of : Turner → Turns
turns_of c = turns (answer_of c.used) c.flag c.times
