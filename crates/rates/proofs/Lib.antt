mod TableRule
