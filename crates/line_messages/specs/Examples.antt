-- Lines of document 01 and lines beside them: one that is read for each kind, and those that are refused.
-- Definitions only: `line_examples` of proofs/ proves them.
use Rattle.std.specs.Prelude.{ℕ, ◌≡◌, List, [], ◌∷◌, ◌++◌, length, replicate}
use Rattle.rules.specs.declared.{Action.Action, PointAction.PointAction}
use Rattle.rules.specs.Scenes.{enrol, change}
use Rattle.line_text.specs.Ascii.{ascii}
use Rattle.line_messages.specs.declared.{Message.Message}
use Rattle.line_messages.specs.Pinned.Messages.{ask, ask_at}
use Rattle.line_messages.specs.Pinned.Reading.{read_line}

abbrev pub opening : ℕ → ℕ → ℕ → ℕ → ℕ → ℕ → Message
opening d w a b default resort =
    Message.Open (record { day = d; w = w; a = a; b = b; default = default; resort = resort })

-- A line of twelve digits in every number.
abbrev pub longest : List ℕ
longest =
    ascii "cdt;21991231;999999999999;999999999999;999999999999;999999999999;999999999999;999999999999;999999999999;999999999999"

-- A line is read, or it is unreadable.
abbrev pub Says : List ℕ → Message → Type 0
Says l m = read_line l ≡ m

abbrev pub Refused31 : List ℕ → Type 0
Refused31 l = read_line l ≡ Message.Unreadable

pub record LineExamples : Type 0 where
  -- 01: "A line is its kind, then today, then the call's fields in the order above"
  pub set_2021 : Says (ascii "set;20210101;2;30;40;1;2") (opening 7671 2 30 40 1 2)
  pub ctr_5 : Says (ascii "ctr;20210101;5") (ask 7671 (Action.Contract 5))
  pub def_5 : Says (ascii "def;20210101;5") (ask 7671 (Action.Failure 5))
  pub enr_1 : Says (ascii "enr;20210101;1;3;0;990;2;0") (ask_at 7671 1 (enrol 3 0 990 2 0))
  pub enr_cubic : Says (ascii "enr;20210101;1;3;0;990;1;9500") (ask_at 7671 1 (enrol 3 0 990 1 9500))
  pub demmespc_1 : Says (ascii "demmespc;20210104;1;5;77") (ask_at 7674 1 (PointAction.IntoService 5 77))
  pub i_1 : Says (ascii "i;20210104;1;77") (ask_at 7674 1 (PointAction.DefaultSupply 77))
  pub demcf_1 : Says (ascii "demcf;20210601;1;5;77;20210622") (ask_at 7822 1 (PointAction.Request 5 77 7843))
  pub adc_1 : Says (ascii "adc;20210519;1;5") (ask_at 7809 1 (PointAction.Cancel 5))
  pub ri_1 : Says (ascii "ri;20210114;1;20210113;10;1") (ask_at 7684 1 (PointAction.Reading 7683 10 1))
  pub cdt_1 : Says (ascii "cdt;20210114;1;10;0;4;2;123;2;0") (ask_at 7684 1 (change 10 0 4 2 123 2 0))
  pub cdt_cubic : Says (ascii "cdt;20210114;1;10;0;4;2;123;1;9500") (ask_at 7684 1 (change 10 0 4 2 123 1 9500))
  pub demmhs_1 : Says (ascii "demmhs;20210114;1") (ask_at 7684 1 PointAction.OutOfService)
  pub sus_1 : Says (ascii "sus;20210114;1;0") (ask_at 7684 1 (PointAction.Suspend 0))
  pub jour_2021 : Says (ascii "jour;20210114") (ask 7684 Action.Day)
  -- the ends of the ranges
  pub zero_itself : Says (ascii "ctr;20210101;0") (ask 7671 (Action.Contract 0))
  pub twelve_digits : Says (ascii "ctr;20210101;999999999999") (ask 7671 (Action.Contract 999999999999))
  pub first_day : Says (ascii "jour;20000101") (ask 0 Action.Day)
  pub the_last_day : Says (ascii "jour;21991231") (ask 73048 Action.Day)
  pub leap_day_2020 : Says (ascii "jour;20200229") (ask 7364 Action.Day)
  -- a field too few
  pub set_missing : Refused31 (ascii "set;20210101;2;30;40;1")
  pub ctr_missing : Refused31 (ascii "ctr;20210101")
  pub def_missing : Refused31 (ascii "def;20210101")
  pub enr_missing : Refused31 (ascii "enr;20210101;1;3;0;990;2")
  pub enr_no_code : Refused31 (ascii "enr;20210101;1;3;0;990")
  pub demmespc_missing : Refused31 (ascii "demmespc;20210104;1;5")
  pub i_missing : Refused31 (ascii "i;20210104;1")
  pub demcf_missing : Refused31 (ascii "demcf;20210601;1;5;77")
  pub adc_missing : Refused31 (ascii "adc;20210519;1")
  pub ri_missing : Refused31 (ascii "ri;20210114;1;20210113;10")
  pub cdt_missing : Refused31 (ascii "cdt;20210114;1;10;0;4;2;123;2")
  pub cdt_no_code : Refused31 (ascii "cdt;20210114;1;10;0;4;2;123")
  pub demmhs_missing : Refused31 (ascii "demmhs;20210114")
  pub sus_missing : Refused31 (ascii "sus;20210114;1")
  pub jour_missing : Refused31 (ascii "jour")
  -- a field too many
  pub set_extra : Refused31 (ascii "set;20210101;2;30;40;1;2;1")
  pub ctr_extra : Refused31 (ascii "ctr;20210101;5;1")
  pub def_extra : Refused31 (ascii "def;20210101;5;1")
  pub enr_extra : Refused31 (ascii "enr;20210101;1;3;0;990;2;0;1")
  pub demmespc_extra : Refused31 (ascii "demmespc;20210104;1;5;77;1")
  pub i_extra : Refused31 (ascii "i;20210104;1;77;1")
  pub demcf_extra : Refused31 (ascii "demcf;20210601;1;5;77;20210622;1")
  pub adc_extra : Refused31 (ascii "adc;20210519;1;5;1")
  pub ri_extra : Refused31 (ascii "ri;20210114;1;20210113;10;1;1")
  pub cdt_extra : Refused31 (ascii "cdt;20210114;1;10;0;4;2;123;2;0;1")
  pub demmhs_extra : Refused31 (ascii "demmhs;20210114;1;1")
  pub sus_extra : Refused31 (ascii "sus;20210114;1;0;1")
  pub jour_extra : Refused31 (ascii "jour;20210114;1")
  -- 01: "dates aaaammjj as real dates of the calendar, other fields decimal, 1 to 12 digits, no leading zero except 0
  -- itself"
  pub leading_zero : Refused31 (ascii "ctr;20210101;05")
  pub two_zeros : Refused31 (ascii "ctr;20210101;00")
  pub thirteen_digits : Refused31 (ascii "ctr;20210101;1000000000000")
  pub leap_day_2100 : Refused31 (ascii "jour;21000229")
  pub leap_day_2021 : Refused31 (ascii "demcf;20210601;1;5;77;20210229")
  pub month_13 : Refused31 (ascii "jour;20211301")
  pub month_0 : Refused31 (ascii "jour;20210001")
  pub day_0 : Refused31 (ascii "jour;20210100")
  pub day_31_april : Refused31 (ascii "ri;20210501;1;20210431;10;1")
  pub before_the_calendar : Refused31 (ascii "jour;19991231")
  pub past_the_calendar : Refused31 (ascii "jour;22000101")
  pub date_of_7_digits : Refused31 (ascii "jour;2021011")
  pub date_of_9_digits : Refused31 (ascii "jour;202101140")
  pub trailing_semicolon : Refused31 (ascii "ctr;20210101;5;")
  pub empty_field : Refused31 (ascii "ctr;20210101;")
  pub no_date : Refused31 (ascii "ctr;5")
  pub sign : Refused31 (ascii "ctr;20210101;-5")
  pub letter : Refused31 (ascii "ctr;20210101;5a")
  pub decimal_point : Refused31 (ascii "ctr;20210101;5.0")
  pub space_behind : Refused31 (ascii "jour;20210114 ")
  pub space_before : Refused31 (ascii " jour;20210114")
  pub space_inside : Refused31 (ascii "ctr;20210101; 5")
  pub comma : Refused31 (ascii "ctr,20210101,5")
  pub unknown_kind : Refused31 (ascii "xyz;20210101;5")
  pub no_kind : Refused31 (ascii ";20210101;5")
  pub shorter_kind : Refused31 (ascii "ct;20210101;5")
  pub longer_kind : Refused31 (ascii "ctrr;20210101;5")
  pub upper_case : Refused31 (ascii "CTR;20210101;5")
  pub question_mark : Refused31 (ascii "?")
  pub kind_alone : Refused31 (ascii "ctr")
  pub empty_line : Refused31 []
  pub carriage_return : Refused31 (ascii "jour;20210114" ++ (13 ∷ []))
  pub line_feed_inside : Refused31 (ascii "jour;20210114" ++ (10 ∷ []))
  -- 02, F-4: "a line may have 128 bytes": the longest that is read has 116, and none is read with a digit more
  pub bytes_116 : length longest ≡ 116
  pub longest_read : Says longest (ask_at 73048 999999999999
      (change 999999999999 999999999999 999999999999 999999999999 999999999999 999999999999 999999999999))
  pub bytes_117 : Refused31 (longest ++ (57 ∷ []))
  pub bytes_128 : Refused31 (ascii "ctr;20210101;5" ++ replicate 114 48)
  pub bytes_129 : Refused31 (ascii "ctr;20210101;5" ++ replicate 115 48)
