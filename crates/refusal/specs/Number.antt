-- 01, "Refusal numbers", and those that 02 adds.
use Rattle.std.specs.Prelude.{ℕ}
use Rattle.refusal.specs.declared.Why.{Why}
use Rattle.refusal.specs.declared.Why.TheVariants.{Cut, TooLarge, Overlong, Zero, TooMany, SumOutside, DifferenceOutside, BadList, TooFewSlots, OutputTooShort, TooManyColumns, OutOfOrder, Compressed, ColumnsTooLong, ColumnsTooShort, NoSuchColumn, NotServed, BadRange, IdTooLarge, NotUtf8, NothingDue, BadEntry, BadCursor, OtherTable}

abbrev pub number_of : Why → ℕ
number_of Cut = 1
number_of TooLarge = 2
number_of Overlong = 3
number_of Zero = 4
number_of TooMany = 5
number_of SumOutside = 6
number_of DifferenceOutside = 7
number_of BadList = 8
number_of TooFewSlots = 9
number_of OutputTooShort = 10
number_of TooManyColumns = 11
number_of OutOfOrder = 12
number_of Compressed = 13
number_of ColumnsTooLong = 14
number_of ColumnsTooShort = 15
number_of NoSuchColumn = 16
number_of NotServed = 17
number_of BadRange = 18
number_of IdTooLarge = 19
number_of NotUtf8 = 20
number_of NothingDue = 21
number_of BadEntry = 23
number_of BadCursor = 24
number_of OtherTable = 25
