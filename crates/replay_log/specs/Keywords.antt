-- The fixed words of the three texts, as they are written.
use Rattle.std.specs.Prelude.{ℕ, List, codes}
use Rattle.replay_log.specs.declared.keywords.Keyword.{Keyword}
use Rattle.replay_log.specs.declared.keywords.Keyword.TheVariants.{Primary, Secondary, Client, ToSecondary, ToPrimary, Stop, OfPrimary, OfSecondary, Report, Ask, Answered, Absent, Arp, Drop, Full, Lost, Mark, Captured, Committed, Acknowledged, Differ, Restart, Wait, Asked, Turn}

abbrev pub keyword_text : Keyword → List ℕ
keyword_text Primary = codes "P"
keyword_text Secondary = codes "S"
keyword_text Client = codes "c"
keyword_text ToSecondary = codes ">"
keyword_text ToPrimary = codes "<"
keyword_text Stop = codes "x"
keyword_text OfPrimary = codes "p"
keyword_text OfSecondary = codes "s"
keyword_text Report = codes "r"
keyword_text Ask = codes "k"
keyword_text Answered = codes ":"
keyword_text Absent = codes "-"
keyword_text Arp = codes "arp"
keyword_text Drop = codes "drop"
keyword_text Full = codes "full"
keyword_text Lost = codes "lost"
keyword_text Mark = codes "!"
keyword_text Captured = codes "q"
keyword_text Committed = codes "k"
keyword_text Acknowledged = codes "a"
keyword_text Differ = codes "differ"
keyword_text Restart = codes "restart"
keyword_text Wait = codes "wait"
keyword_text Asked = codes "asked"
keyword_text Turn = codes "T"
